-- The legs that are found for routes are those of the one tree that has just these.
use Rattle.std.proofs.Common.{◌≡◌, ℕ, suc, Bool, true, false, cond, List, [], ◌∷◌, length, Option, Some, None}
use Rattle.std.proofs.Common.{option_map}
use Rattle.std.proofs.Common.{◌++◌, Ok, refl, sym, ap, subst, ◌∙◌, ◌⊎◌, inl, inr, append_assoc}
use Rattle.std.specs.Global.{Vec}
use Rattle.std.specs.Prelude.{option_and_then}
use Rattle.std.proofs.lemmas.List.{map-append}
use Rattle.std.specs.List.{All}
use Rattle.std.proofs.lemmas.List.Elements.{All-cons, All-head, All-nil, All-push, All-tail}
use Rattle.std.proofs.lemmas.Option.{none-some, same_Some}
use Rattle.ats_topology.specs.Topology.{DeclaredTopology}
use Rattle.ats_network.specs.Path.{IsValidPath}
use Rattle.ats_streams.specs.Branches.{routes_of}
use Rattle.ats_network_table.specs.declared.format.Format.{Format}
use Rattle.ats_network_toml.specs.Document as file
use Rattle.ats_route_tree.specs.Legs.{DeclaredLegs, HasLegs, HaveRoutes}
use Rattle.ats_route_tree.specs.LegsView.{routes_in}
use Rattle.ats_route_tree.specs.Steps.{legs_found}
use Rattle.ats_route_tree.proofs.Found.{found_valid, have_valid, legs_once, legs_or_none}
use Rattle.ats_network_file.specs.Routes.{is_valid, legs_of, legs_where, legs_with, path_of, paths_of, ports_of}
use Rattle.ats_network_file.specs.Routes.{may_declare, ports_of_each}
use Rattle.ats_network_file.specs.Senders.{legs_in}
use Rattle.ats_network_file.specs.declared.senders.Place.{Place}
use Rattle.ats_network_file.specs.declared.fault.NetFault.TheVariants as net
use Rattle.ats_network_file.proofs.Steps.{both, Given, ok_where_ok, or_fault_ok}
use Rattle.ats_num.specs.Failure.{◌>>=◌, ok_where, or_fault}
use Rattle.ats_network_file.proofs.ValidPaths.{valid_passed, valid_passes}

-- they have these routes
pub legs_have : (topology : DeclaredTopology) (routes : List (List ℕ)) (legs : DeclaredLegs)
    → legs_with topology routes ≡ Some legs → HaveRoutes topology routes legs
legs_have topology routes legs h = by (legs_or_none topology routes) h
  where
    by : (decided : HasLegs topology routes ⊎ ¬ HasLegs topology routes) → legs_where decided ≡ Some legs
        → HaveRoutes topology routes legs
    by (inl has) h = subst (HaveRoutes topology routes) (same_Some has.legs legs h) has.have
    by (inr never) h = absurd (none-some legs h)

-- and legs that have these routes are found
pub legs_are_found : (topology : DeclaredTopology) (routes : List (List ℕ)) (legs : DeclaredLegs)
    → HaveRoutes topology routes legs → legs_with topology routes ≡ Some legs
legs_are_found topology routes legs have = by (legs_or_none topology routes)
  where
    by : (decided : HasLegs topology routes ⊎ ¬ HasLegs topology routes) → legs_where decided ≡ Some legs
    by (inl has) = ap Some (same_Some has.legs legs
        (sym (legs_once topology routes has.legs has.have) ∙ legs_once topology routes legs have))
    by (inr never) = absurd (never (record { legs = legs; have = have }))

-- of valid paths they are found route by route
pub legs_by_steps : (topology : DeclaredTopology) (routes : List (List ℕ)) → All (IsValidPath topology) routes
    → legs_with topology routes ≡ legs_found topology routes
legs_by_steps topology routes valid = by (legs_found topology routes) refl
  where
    none : legs_found topology routes ≡ None
        → (decided : HasLegs topology routes ⊎ ¬ HasLegs topology routes) → legs_where decided ≡ None
    none e (inl has) = absurd (none-some has.legs (sym e ∙ legs_once topology routes has.legs has.have))
    none e (inr never) = refl

    by : (o : Option DeclaredLegs) → legs_found topology routes ≡ o → legs_with topology routes ≡ o
    by None e = none e (legs_or_none topology routes)
    by (Some legs) e = legs_are_found topology routes legs (found_valid topology routes legs valid e)

-- where each route has valid ports, these are its ports
paths_are : (topology : DeclaredTopology) (routes : List file.DeclaredRoute) (paths : List (List ℕ))
    → paths_of topology routes ≡ Some paths → ports_of_each topology routes ≡ Some paths
paths_are topology [] paths h = h
paths_are topology (route ∷ routes) paths h =
    by (ports_of topology route) (paths_of topology routes) h (paths_are topology routes)
  where
    by : (o : Option (List ℕ)) (more : Option (List (List ℕ)))
        → option_and_then (λ path. option_map (λ ps. path ∷ ps) more)
        (option_and_then (λ ports. cond (is_valid topology ports) (Some ports) None) o) ≡ Some paths
        → ((ps : List (List ℕ)) → more ≡ Some ps → ports_of_each topology routes ≡ Some ps)
        → option_and_then (λ ports. option_map (λ ps. ports ∷ ps) (ports_of_each topology routes)) o ≡ Some paths
    by None more h rest = absurd (none-some paths h)
    by (Some ports) more h rest = tested (is_valid topology ports) more h rest
      where
        tested : (t : Bool) (more : Option (List (List ℕ)))
            → option_and_then (λ path. option_map (λ ps. path ∷ ps) more) (cond t (Some ports) None) ≡ Some paths
            → ((ps : List (List ℕ)) → more ≡ Some ps → ports_of_each topology routes ≡ Some ps)
            → option_map (λ ps. ports ∷ ps) (ports_of_each topology routes) ≡ Some paths
        tested true None h rest = absurd (none-some paths h)
        tested true (Some ps) h rest = ap (option_map (λ ps. ports ∷ ps)) (rest ps refl) ∙ h
        tested false more h rest = absurd (none-some paths h)

-- and where they have legs, all of them are
valid_paths : (topology : DeclaredTopology) (routes : List file.DeclaredRoute) (paths : List (List ℕ))
    → ports_of_each topology routes ≡ Some paths → All (IsValidPath topology) paths
    → paths_of topology routes ≡ Some paths
valid_paths topology [] paths h valid = h
valid_paths topology (route ∷ routes) paths h valid =
    by (ports_of topology route) (ports_of_each topology routes) h (valid_paths topology routes)
  where
    by : (o : Option (List ℕ)) (more : Option (List (List ℕ)))
        → option_and_then (λ ports. option_map (λ ps. ports ∷ ps) more) o ≡ Some paths
        → ((ps : List (List ℕ)) → more ≡ Some ps → All (IsValidPath topology) ps → paths_of topology routes ≡ Some ps)
        → option_and_then (λ path. option_map (λ ps. path ∷ ps) (paths_of topology routes))
        (option_and_then (λ ports. cond (is_valid topology ports) (Some ports) None) o) ≡ Some paths
    by None more h rest = absurd (none-some paths h)
    by (Some ports) None h rest = absurd (none-some paths h)
    by (Some ports) (Some ps) h rest =
        let same : ports ∷ ps ≡ paths = same_Some (ports ∷ ps) paths h in
        let all : All (IsValidPath topology) (ports ∷ ps) = subst (All (IsValidPath topology)) (sym same) valid in
        ap (λ (t : Bool). option_and_then (λ path. option_map (λ ps. path ∷ ps) (paths_of topology routes))
        (cond t (Some ports) None)) (valid_passes topology ports (All-head (IsValidPath topology) ports ps all))
        ∙ ap (option_map (λ ps. ports ∷ ps)) (rest ps refl (All-tail (IsValidPath topology) ports ps all))
        ∙ ap Some same

-- each of these paths is valid
paths_valid : (topology : DeclaredTopology) (routes : List file.DeclaredRoute) (paths : List (List ℕ))
    → paths_of topology routes ≡ Some paths → All (IsValidPath topology) paths
paths_valid topology [] paths h =
    subst (All (IsValidPath topology)) (same_Some [] paths h) (All-nil (IsValidPath topology))
paths_valid topology (route ∷ routes) paths h =
    by (ports_of topology route) (paths_of topology routes) h (paths_valid topology routes)
  where
    by : (o : Option (List ℕ)) (more : Option (List (List ℕ)))
        → option_and_then (λ path. option_map (λ ps. path ∷ ps) more)
        (option_and_then (λ ports. cond (is_valid topology ports) (Some ports) None) o) ≡ Some paths
        → ((ps : List (List ℕ)) → more ≡ Some ps → All (IsValidPath topology) ps) → All (IsValidPath topology) paths
    by None more h rest = absurd (none-some paths h)
    by (Some ports) more h rest = tested (is_valid topology ports) refl more h rest
      where
        tested : (t : Bool) → is_valid topology ports ≡ t → (more : Option (List (List ℕ)))
            → option_and_then (λ path. option_map (λ ps. path ∷ ps) more) (cond t (Some ports) None) ≡ Some paths
            → ((ps : List (List ℕ)) → more ≡ Some ps → All (IsValidPath topology) ps)
            → All (IsValidPath topology) paths
        tested true e None h rest = absurd (none-some paths h)
        tested true e (Some ps) h rest = subst (All (IsValidPath topology)) (same_Some (ports ∷ ps) paths h)
            (All-cons (IsValidPath topology) ports ps (valid_passed topology ports e) (rest ps refl))
        tested false e more h rest = absurd (none-some paths h)

-- the legs of routes are found from their valid paths, step by step
pub legs_of_paths : (topology : DeclaredTopology) (routes : List file.DeclaredRoute)
    → legs_of topology routes ≡ option_and_then (legs_found topology) (paths_of topology routes)
legs_of_paths topology routes = by (paths_of topology routes) refl
  where
    none : paths_of topology routes ≡ None → (o : Option (List (List ℕ))) → ports_of_each topology routes ≡ o
        → option_and_then (legs_with topology) o ≡ None
    none e None f = refl
    none e (Some paths) f = decided (legs_with topology paths) refl
      where
        decided : (o : Option DeclaredLegs) → legs_with topology paths ≡ o → legs_with topology paths ≡ None
        decided None g = g
        decided (Some legs) g = absurd (none-some paths (sym e ∙ valid_paths topology routes paths f
            (have_valid topology paths legs (legs_have topology paths legs g))))

    by : (o : Option (List (List ℕ))) → paths_of topology routes ≡ o
        → legs_of topology routes ≡ option_and_then (legs_found topology) o
    by None e = none e (ports_of_each topology routes) refl
    by (Some paths) e = ap (option_and_then (legs_with topology)) (paths_are topology routes paths e)
        ∙ legs_by_steps topology paths (paths_valid topology routes paths e)

-- the legs of an entry are those of its routes, and a file of the format may declare these
pub record IsDeclared (format : Format) (topology : DeclaredTopology) (place : Place) (routes : List file.DeclaredRoute)
    (legs : DeclaredLegs) : Type 0 where
  pub are : legs_of topology routes ≡ Some legs
  pub may : may_declare format topology (routes_of legs.ports legs.branches) ≡ true

pub legs_declared : (format : Format) (topology : DeclaredTopology) (place : Place) (routes : List file.DeclaredRoute)
    (legs : DeclaredLegs) → legs_in format topology place routes ≡ Ok legs
    → IsDeclared format topology place routes legs
legs_declared format topology place routes legs h =
    let May : DeclaredLegs → Bool = λ (l : DeclaredLegs). may_declare format topology (routes_of l.ports l.branches) in
    let found = both (or_fault (net.BadPath place.table place.number) (legs_of topology routes))
    (λ l. ok_where (May l) (net.BadPath place.table place.number) l) legs h in
    let given : Given (May found.first) found.first legs =
    ok_where_ok (May found.first) (net.BadPath place.table place.number) found.first legs found.then in
    record {
      are = or_fault_ok (net.BadPath place.table place.number) (legs_of topology routes) found.first found.is
          ∙ ap Some given.same;
      may = ap May (sym given.same) ∙ given.passed;
    }

-- the ports of some routes, one after another
pub record IsRouted (topology : DeclaredTopology) (routes : List file.DeclaredRoute) (legs : DeclaredLegs) : Type 0
  where
    pub paths : List (List ℕ)
    pub are : ports_of_each topology routes ≡ Some paths
    pub have : HaveRoutes topology paths legs

-- the legs of an entry have its routes
pub legs_kept : (format : Format) (topology : DeclaredTopology) (place : Place) (routes : List file.DeclaredRoute)
    (legs : DeclaredLegs) → legs_in format topology place routes ≡ Ok legs → IsRouted topology routes legs
legs_kept format topology place routes legs h =
    let given : IsDeclared format topology place routes legs = legs_declared format topology place routes legs h in
    by (ports_of_each topology routes) refl given.are
  where
    by : (o : Option (List (List ℕ))) → ports_of_each topology routes ≡ o
        → option_and_then (legs_with topology) o ≡ Some legs → IsRouted topology routes legs
    by None e h = absurd (none-some legs h)
    by (Some paths) e h = record { paths = paths; are = e; have = legs_have topology paths legs h }

-- there are as many ports as routes
pub each_length : (topology : DeclaredTopology) (routes : List file.DeclaredRoute) (paths : List (List ℕ))
    → ports_of_each topology routes ≡ Some paths → length paths ≡ length routes
each_length topology [] paths h = ap (λ (ps : List (List ℕ)). length ps) (sym (same_Some [] paths h))
each_length topology (route ∷ routes) paths h =
    by (ports_of topology route) (ports_of_each topology routes) h (each_length topology routes)
  where
    by : (o : Option (List ℕ)) (more : Option (List (List ℕ)))
        → option_and_then (λ ports. option_map (λ ps. ports ∷ ps) more) o ≡ Some paths
        → ((ps : List (List ℕ)) → more ≡ Some ps → length ps ≡ length routes) → length paths ≡ suc (length routes)
    by None more h rest = absurd (none-some paths h)
    by (Some ports) None h rest = absurd (none-some paths h)
    by (Some ports) (Some ps) h rest =
        ap (λ (xs : List (List ℕ)). length xs) (sym (same_Some (ports ∷ ps) paths h)) ∙ ap suc (rest ps refl)

-- one path more, in front of those left
pub path_more : (found : List (List ℕ)) (one : Option (List ℕ)) (rest : Option (List (List ℕ))) (path : List ℕ)
    → one ≡ Some path
    → option_map (λ ys. (found ++ path ∷ []) ++ ys) rest
    ≡ option_map (λ ys. found ++ ys) (option_and_then (λ p. option_map (λ ps. p ∷ ps) rest) one)
path_more found one None path is =
    sym (ap (λ (o : Option (List ℕ)). option_map (λ ys. found ++ ys)
    (option_and_then (λ p. option_map (λ ps. p ∷ ps) None) o)) is)
path_more found one (Some rest) path is =
    ap Some (append_assoc found (path ∷ []) rest)
    ∙ sym (ap (λ (o : Option (List ℕ)). option_map (λ ys. found ++ ys)
    (option_and_then (λ p. option_map (λ ps. p ∷ ps) (Some rest)) o)) is)

-- and none, where one has no path
pub path_none : (found : List (List ℕ)) (one : Option (List ℕ)) (rest : Option (List (List ℕ))) → one ≡ None
    → option_map (λ ys. found ++ ys) (option_and_then (λ p. option_map (λ ps. p ∷ ps) rest) one) ≡ None
path_none found one rest is = ap (λ (o : Option (List ℕ)). option_map (λ ys. found ++ ys)
    (option_and_then (λ p. option_map (λ ps. p ∷ ps) rest) o)) is

-- what the steps find is what an entry has
pub legs_given : (format : Format) (topology : DeclaredTopology) (place : Place) (routes : List file.DeclaredRoute)
    (paths : Option (List (List ℕ))) (legs : Option DeclaredLegs) → paths_of topology routes ≡ paths
    → option_and_then (legs_found topology) paths ≡ legs
    → legs_in format topology place routes ≡ or_fault (net.BadPath place.table place.number) legs
    >>= λ l. ok_where (may_declare format topology (routes_of l.ports l.branches))
    (net.BadPath place.table place.number) l
legs_given format topology place routes paths legs p l =
    ap (λ (o : Option DeclaredLegs). or_fault (net.BadPath place.table place.number) o
    >>= λ l. ok_where (may_declare format topology (routes_of l.ports l.branches))
    (net.BadPath place.table place.number) l)
    (legs_of_paths topology routes ∙ ap (option_and_then (legs_found topology)) p ∙ l)

-- where they are found, a file of the format may declare them or not
pub legs_settled : (format : Format) (topology : DeclaredTopology) (place : Place) (routes : List file.DeclaredRoute)
    (paths : List (List ℕ)) (legs : DeclaredLegs) (may : Bool) → paths_of topology routes ≡ Some paths
    → legs_found topology paths ≡ Some legs → HaveRoutes topology paths legs → may_declare format topology paths ≡ may
    → legs_in format topology place routes ≡ ok_where may (net.BadPath place.table place.number) legs
legs_settled format topology place routes paths legs may p l have m =
    legs_given format topology place routes (Some paths) (Some legs) p l
    ∙ ap (λ (t : Bool). ok_where t (net.BadPath place.table place.number) legs)
    (ap (may_declare format topology) have.routes_are ∙ m)

-- the paths so far with one more, in front of those left
pub path_step : (topology : DeclaredTopology) (found : List (Vec ℕ)) (more : List (Vec ℕ)) (ports : Vec ℕ)
    (routes rest : List file.DeclaredRoute) (route : file.DeclaredRoute) (all : Option (List (List ℕ)))
    → more ≡ found ++ ports ∷ [] → routes ≡ route ∷ rest → ports_of topology route ≡ Some ports.items
    → is_valid topology ports.items ≡ true
    → option_map (λ ys. routes_in found ++ ys) (paths_of topology routes) ≡ all
    → option_map (λ ys. routes_in more ++ ys) (paths_of topology rest) ≡ all
path_step topology found more ports routes rest route all pushed cut is valid h =
    ap (λ (rs : List (List ℕ)). option_map (λ ys. rs ++ ys) (paths_of topology rest))
    (ap routes_in pushed ∙ map-append (λ (r : Vec ℕ). r.items) found (ports ∷ []))
    ∙ path_more (routes_in found) (path_of topology route) (paths_of topology rest) ports.items
    (ap (option_and_then (λ ps. cond (is_valid topology ps) (Some ps) None)) is
    ∙ ap (λ (t : Bool). cond t (Some ports.items) None) valid)
    ∙ ap (λ (rs : List file.DeclaredRoute). option_map (λ ys. routes_in found ++ ys) (paths_of topology rs)) (sym cut)
    ∙ h

pub valid_step : (topology : DeclaredTopology) (found more : List (Vec ℕ)) (ports : Vec ℕ)
    → more ≡ found ++ ports ∷ [] → is_valid topology ports.items ≡ true
    → All (IsValidPath topology) (routes_in found) → All (IsValidPath topology) (routes_in more)
valid_step topology found more ports pushed valid all =
    subst (All (IsValidPath topology))
    (sym (ap routes_in pushed ∙ map-append (λ (r : Vec ℕ). r.items) found (ports ∷ [])))
    (All-push (IsValidPath topology) (routes_in found) ports.items all (valid_passed topology ports.items valid))
