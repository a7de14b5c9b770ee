-- Routes are those of a tree, or of none: the legs are found from the routes.
use Rattle.std.proofs.Common.{◌≡◌, ℕ, zero, suc, ◌<◌, ◌≤◌, List, [], ◌∷◌, ◌++◌, length, take, drop, ◌⊎◌, inl, inr}
use Rattle.std.proofs.Common.{Option, Some, None, refl, sym, ap, subst, ◌∙◌, arith, append_assoc, length-append}
use Rattle.std.specs.Prelude.{option_and_then}
use Rattle.std.specs.List.{All}
use Rattle.std.proofs.lemmas.List.{append-nil, length-take-le, take-append-drop}
use Rattle.std.proofs.lemmas.List.Elements.{All-cons, All-head, All-nil, All-tail}
use Rattle.std.proofs.lemmas.Option.{none-some, same_Some}
use Rattle.ats_streams.specs.Branches.{AreBranches, lead_to, leads_of, legs_of, routes_of}
use Rattle.ats_streams.specs.declared.branch.Branch.{Branch}
use Rattle.ats_streams.proofs.BranchLemmas.{routes-length}
use Rattle.ats_streams.proofs.OneListener.{no_branches}
use Rattle.ats_topology.specs.Topology.{DeclaredTopology}
use Rattle.ats_network.specs.Path.{IsTree, IsValidPath}
use Rattle.ats_network.proofs.PathTests.{valid_or_not}
use Rattle.ats_network.proofs.TreeLemmas.{tree_of_path}
use Rattle.ats_network.proofs.ValidRoutes.{each_route_is_a_path}
use Rattle.ats_route_tree.specs.Legs.{DeclaredLegs, HasLegs, HaveRoutes}
use Rattle.ats_route_tree.specs.Steps.{legs_found, with_route, with_routes}
use Rattle.ats_route_tree.proofs.Grow.{grow}
use Rattle.ats_route_tree.proofs.Shrink.{AscendsTo, Shrinks, ascends_to, shrink}

-- What is found has the routes.

found_have : (topology : DeclaredTopology) (done : List (List ℕ)) (legs : DeclaredLegs) (routes : List (List ℕ))
    (final : DeclaredLegs) → HaveRoutes topology done legs → All (IsValidPath topology) routes
    → with_routes topology legs routes ≡ Some final → HaveRoutes topology (done ++ routes) final
found_have topology done legs [] final have valid h =
    subst (λ (rs : List (List ℕ)). HaveRoutes topology rs final) (sym (append-nil done))
    (subst (HaveRoutes topology done) (same_Some legs final h) have)
found_have topology done legs (r ∷ routes) final have valid h =
    by (with_route topology legs r) refl h
    (λ next more rest. found_have topology (done ++ r ∷ []) next routes final more
    (All-tail (IsValidPath topology) r routes valid) rest)
  where
    by : (o : Option DeclaredLegs) → with_route topology legs r ≡ o
        → option_and_then (λ next. with_routes topology next routes) o ≡ Some final
        → ((next : DeclaredLegs) → HaveRoutes topology (done ++ r ∷ []) next
        → with_routes topology next routes ≡ Some final → HaveRoutes topology ((done ++ r ∷ []) ++ routes) final)
        → HaveRoutes topology (done ++ r ∷ routes) final
    by None e h more = absurd (none-some final h)
    by (Some next) e h more =
        subst (λ (rs : List (List ℕ)). HaveRoutes topology rs final) (append_assoc done (r ∷ []) routes)
        (more next (grow topology done legs r next have (All-head (IsValidPath topology) r routes valid) e) h)

pub trunk_have : (topology : DeclaredTopology) (route : List ℕ) → IsValidPath topology route
    → HaveRoutes topology (route ∷ []) (record { ports = route; branches = [] })
trunk_have topology route valid =
    record { are = no_branches route; tree = tree_of_path topology route valid; routes_are = refl }

-- the legs that are found for valid paths have just these routes
pub found_valid : (topology : DeclaredTopology) (routes : List (List ℕ)) (legs : DeclaredLegs)
    → All (IsValidPath topology) routes → legs_found topology routes ≡ Some legs → HaveRoutes topology routes legs
found_valid topology [] legs valid h = absurd (none-some legs h)
found_valid topology (r ∷ routes) legs valid h =
    found_have topology (r ∷ []) (record { ports = r; branches = [] }) routes legs
    (trunk_have topology r (All-head (IsValidPath topology) r routes valid))
    (All-tail (IsValidPath topology) r routes valid) h

-- And what has the routes is found.

some_again : (o : Option DeclaredLegs) → option_and_then (λ legs. Some legs) o ≡ o
some_again None = refl
some_again (Some legs) = refl

routes_more : (topology : DeclaredTopology) (legs : DeclaredLegs) (routes : List (List ℕ)) (r : List ℕ)
    → with_routes topology legs (routes ++ r ∷ [])
    ≡ option_and_then (λ next. with_route topology next r) (with_routes topology legs routes)
routes_more topology legs [] r = some_again (with_route topology legs r)
routes_more topology legs (q ∷ routes) r =
    by (with_route topology legs q) (λ next. routes_more topology next routes r)
  where
    by : (o : Option DeclaredLegs)
        → ((next : DeclaredLegs) → with_routes topology next (routes ++ r ∷ [])
        ≡ option_and_then (λ after. with_route topology after r) (with_routes topology next routes))
        → option_and_then (λ next. with_routes topology next (routes ++ r ∷ [])) o
        ≡ option_and_then (λ next. with_route topology next r)
        (option_and_then (λ next. with_routes topology next routes) o)
    by None more = refl
    by (Some next) more = more next

found_more : (topology : DeclaredTopology) (routes : List (List ℕ)) (r : List ℕ) → 0 < length routes
    → legs_found topology (routes ++ r ∷ [])
    ≡ option_and_then (λ next. with_route topology next r) (legs_found topology routes)
found_more topology [] r some = absurd (omega (arith, some))
found_more topology (q ∷ routes) r some = routes_more topology (record { ports = q; branches = [] }) routes r

-- branches up to the last one
record Last (branches : List Branch) : Type 0 where
  front : List Branch
  b : Branch
  is : front ++ b ∷ [] ≡ branches

last_of : (c : Branch) (branches : List Branch) → Last (c ∷ branches)
last_of c [] = record { front = []; b = c; is = refl }
last_of c (d ∷ branches) =
    let rest : Last (d ∷ branches) = last_of d branches in
    record { front = c ∷ rest.front; b = rest.b; is = ap (λ (bs : List Branch). c ∷ bs) rest.is }

abbrev Again : DeclaredTopology → List ℕ → List Branch → Type 0
Again topology ports branches =
    legs_found topology (routes_of ports branches) ≡ Some (record { ports = ports; branches = branches })

-- legs with a branch are found where those without the last one are
found_last : (topology : DeclaredTopology) (ports : List ℕ) (c : Branch) (branches : List Branch)
    → AreBranches ports (c ∷ branches) → IsTree topology ports (c ∷ branches)
    → ((ps : List ℕ) (bs : List Branch) → length bs ≤ length branches → AreBranches ps bs → IsTree topology ps bs
    → Again topology ps bs)
    → Again topology ports (c ∷ branches)
found_last topology ports c branches are tree less =
    subst (Again topology ports) l.is (subst (λ (ps : List ℕ). Again topology ps (l.front ++ l.b ∷ [])) cut
    (ap (legs_found topology) s.grow.routes ∙ found_more topology (routes_of front l.front) route some
    ∙ ap (option_and_then (λ next. with_route topology next route)) earlier ∙ s.again))
  where
    l : Last (c ∷ branches)
    l = last_of c branches

    to : AscendsTo 0 l.front l.b (length ports)
    to = ascends_to 0 l.front l.b (length ports)
        (subst (λ (bs : List Branch). AreBranches ports bs) (sym l.is) are).places

    front : List ℕ
    front = take l.b.first ports

    own : List ℕ
    own = drop l.b.first ports

    cut : front ++ own ≡ ports
    cut = take-append-drop l.b.first ports

    long : length front ≡ l.b.first
    long = length-take-le l.b.first ports (omega (arith, to.below))

    s : Shrinks topology front own l.front l.b
    s = shrink topology front own l.front l.b
        (subst (λ (ps : List ℕ). AreBranches ps (l.front ++ l.b ∷ [])) (sym cut)
        (subst (AreBranches ports) (sym l.is) are))
        (subst (λ (ps : List ℕ). IsTree topology ps (l.front ++ l.b ∷ [])) (sym cut)
        (subst (IsTree topology ports) (sym l.is) tree))
        (sym long)

    route : List ℕ
    route = lead_to (legs_of front l.front) (leads_of front l.front) l.b ++ own

    some : 0 < length (routes_of front l.front)
    some = omega (arith, routes-length front l.front)

    fewer : length l.front ≤ length branches
    fewer = omega (
      arith,
      length-append l.front (l.b ∷ []),
      ap (λ (bs : List Branch). length bs) l.is,
    )

    earlier : Again topology front l.front
    earlier = less front l.front fewer s.are s.tree

found_again : (topology : DeclaredTopology) (fuel : ℕ) (ports : List ℕ) (branches : List Branch)
    → length branches ≤ fuel → AreBranches ports branches → IsTree topology ports branches
    → Again topology ports branches
found_again topology fuel ports [] enough are tree = refl
found_again topology zero ports (c ∷ branches) enough are tree = absurd (omega (arith, enough))
found_again topology (suc fuel) ports (c ∷ branches) enough are tree =
    found_last topology ports c branches are tree (λ ps bs few a t. found_again topology fuel ps bs
    (omega (arith, few, enough)) a t)

-- legs that have these routes are found
pub legs_once : (topology : DeclaredTopology) (routes : List (List ℕ)) (legs : DeclaredLegs)
    → HaveRoutes topology routes legs → legs_found topology routes ≡ Some legs
legs_once topology routes legs have = ap (legs_found topology) (sym have.routes_are)
    ∙ found_again topology (length legs.branches) legs.ports legs.branches (omega arith) have.are have.tree

-- and each of the routes is a valid path
pub have_valid : (topology : DeclaredTopology) (routes : List (List ℕ)) (legs : DeclaredLegs)
    → HaveRoutes topology routes legs → All (IsValidPath topology) routes
have_valid topology routes legs have = subst (All (IsValidPath topology)) have.routes_are
    (each_route_is_a_path topology legs.ports legs.branches have.are have.tree)

valid_all_or_not : (topology : DeclaredTopology) (routes : List (List ℕ))
    → All (IsValidPath topology) routes ⊎ ¬ All (IsValidPath topology) routes
valid_all_or_not topology [] = inl (All-nil (IsValidPath topology))
valid_all_or_not topology (r ∷ routes) = by (valid_or_not topology r) (valid_all_or_not topology routes)
  where
    by : IsValidPath topology r ⊎ ¬ IsValidPath topology r
        → All (IsValidPath topology) routes ⊎ ¬ All (IsValidPath topology) routes
        → All (IsValidPath topology) (r ∷ routes) ⊎ ¬ All (IsValidPath topology) (r ∷ routes)
    by (inl one) (inl rest) = inl (All-cons (IsValidPath topology) r routes one rest)
    by (inl one) (inr never) = inr (λ all. never (All-tail (IsValidPath topology) r routes all))
    by (inr never) rest = inr (λ all. never (All-head (IsValidPath topology) r routes all))

-- routes are those of a tree, or of none
pub legs_or_none : (topology : DeclaredTopology) (routes : List (List ℕ))
    → HasLegs topology routes ⊎ ¬ HasLegs topology routes
legs_or_none topology routes = by (valid_all_or_not topology routes)
  where
    from : All (IsValidPath topology) routes → (o : Option DeclaredLegs) → legs_found topology routes ≡ o
        → HasLegs topology routes ⊎ ¬ HasLegs topology routes
    from valid (Some legs) e = inl (record { legs = legs; have = found_valid topology routes legs valid e })
    from valid None e = inr (λ has. none-some has.legs (sym e ∙ legs_once topology routes has.legs has.have))

    by : All (IsValidPath topology) routes ⊎ ¬ All (IsValidPath topology) routes
        → HasLegs topology routes ⊎ ¬ HasLegs topology routes
    by (inl valid) = from valid (legs_found topology routes) refl
    by (inr never) = inr (λ has. never (have_valid topology routes has.legs has.have))
