-- Legs from one route to the next.
use Rattle.std.proofs.Common.{◌≡◌, ℕ, zero, suc, ◌+◌, ◌<◌, ◌≤◌, List, [], ◌∷◌, ◌++◌, length, take, drop, get_or}
use Rattle.std.proofs.Common.{Some}
use Rattle.std.proofs.Common.{None, refl, sym, ap, subst, ◌∙◌, arith}
use Rattle.std.specs.Global.{Vec}
use Rattle.std.specs.Prelude.{option_and_then}
use Rattle.std.specs.List.{All}
use Rattle.std.proofs.lemmas.List.{drop_all, drop_more, get_or-map, length-map, take_all, take_more}
use Rattle.ats_topology.specs.Topology.{DeclaredTopology}
use Rattle.ats_network.specs.Path.{IsValidPath}
use Rattle.ats_route_tree.specs.Legs.{DeclaredLegs, HaveRoutes}
use Rattle.ats_route_tree.specs.LegsView.{routes_in}
use Rattle.ats_route_tree.specs.Steps.{legs_found, with_route, with_routes}
use Rattle.ats_route_tree.proofs.Found.{trunk_have}
use Rattle.ats_route_tree.proofs.Grow.{grow}

-- the legs have so many of the routes, and with those left they are the legs of all
pub record IsWalked (topology : DeclaredTopology) (routes rest : List (Vec ℕ)) (place : ℕ) (legs : DeclaredLegs) :
    Type 0
  where
    pub have : HaveRoutes topology (take (place + 1) (routes_in routes)) legs
    pub left : with_routes topology legs (drop place (routes_in rest)) ≡ legs_found topology (routes_in routes)

-- at first there is a trunk
pub walked_first : (topology : DeclaredTopology) (routes : List (Vec ℕ)) (first : Vec ℕ) (rest : List (Vec ℕ))
    (legs : DeclaredLegs) → routes ≡ first ∷ rest → All (IsValidPath topology) (routes_in routes)
    → legs ≡ record { ports = first.items; branches = [] } → IsWalked topology routes rest 0 legs
walked_first topology routes first rest legs cut valid is =
    subst (λ (rs : List (Vec ℕ)). IsWalked topology rs rest 0 legs) (sym cut)
    (subst (IsWalked topology (first ∷ rest) rest 0) (sym is) (record {
      have = trunk_have topology first.items one;
      left = refl;
    }))
  where
    one : IsValidPath topology first.items
    one = subst (λ (rs : List (Vec ℕ)). All (IsValidPath topology) (routes_in rs)) cut valid 0 [] (omega arith)

-- the route at a place behind the first
route_behind : (routes : List (Vec ℕ)) (first : Vec ℕ) (rest : List (Vec ℕ)) (place : ℕ) (route : Vec ℕ)
    → routes ≡ first ∷ rest → place < length rest → route ≡ get_or rest place route
    → get_or (routes_in routes) (place + 1) [] ≡ route.items
route_behind routes first rest place route cut within is =
    let next : place + 1 ≡ suc place = omega arith in
    ap (λ (rs : List (Vec ℕ)). get_or (routes_in rs) (place + 1) []) cut
    ∙ ap (λ (n : ℕ). get_or (routes_in (first ∷ rest)) n []) next
    ∙ get_or-map (λ (r : Vec ℕ). r.items) rest place route [] within ∙ ap (λ (r : Vec ℕ). r.items) (sym is)

-- what is left from a place on
left_at : (topology : DeclaredTopology) (routes : List (Vec ℕ)) (rest : List (Vec ℕ)) (place : ℕ) (legs : DeclaredLegs)
    (route : Vec ℕ) → IsWalked topology routes rest place legs → place < length rest
    → route ≡ get_or rest place route
    → option_and_then (λ next. with_routes topology next (drop (place + 1) (routes_in rest)))
    (with_route topology legs route.items) ≡ legs_found topology (routes_in routes)
left_at topology routes rest place legs route so_far within is =
    let here : get_or (routes_in rest) place [] ≡ route.items =
    get_or-map (λ (r : Vec ℕ). r.items) rest place route [] within ∙ ap (λ (r : Vec ℕ). r.items) (sym is) in
    let cut : drop place (routes_in rest) ≡ route.items ∷ drop (place + 1) (routes_in rest) =
    drop_more (routes_in rest) place [] (omega (arith, within, length-map rest (λ (r : Vec ℕ). r.items)))
    ∙ ap (λ (r : List ℕ). r ∷ drop (place + 1) (routes_in rest)) here in
    sym (ap (with_routes topology legs) cut) ∙ so_far.left

-- one route more
pub walked_next : (topology : DeclaredTopology) (routes : List (Vec ℕ)) (first : Vec ℕ) (rest : List (Vec ℕ))
    (place : ℕ) (legs next : DeclaredLegs) (route : Vec ℕ) → routes ≡ first ∷ rest
    → All (IsValidPath topology) (routes_in routes) → place < length rest → route ≡ get_or rest place route
    → IsWalked topology routes rest place legs → Some next ≡ with_route topology legs route.items
    → IsWalked topology routes rest (place + 1) next
walked_next topology routes first rest place legs next route cut valid within is so_far grows = record {
  have = subst (λ (rs : List (List ℕ)). HaveRoutes topology rs next) (sym more)
      (grow topology (take (place + 1) (routes_in routes)) legs route.items next so_far.have one (sym grows));
  left = ap (option_and_then (λ n. with_routes topology n (drop (place + 1) (routes_in rest)))) grows
      ∙ left_at topology routes rest place legs route so_far within is;
}
  where
    long : length (routes_in routes) ≡ suc (length rest)
    long = length-map routes (λ (r : Vec ℕ). r.items) ∙ ap (λ (rs : List (Vec ℕ)). length rs) cut

    here : get_or (routes_in routes) (place + 1) [] ≡ route.items
    here = route_behind routes first rest place route cut within is

    one : IsValidPath topology route.items
    one = subst (IsValidPath topology) here (valid (place + 1) [] (omega (arith, long, within)))

    more : take (place + 1 + 1) (routes_in routes) ≡ take (place + 1) (routes_in routes) ++ route.items ∷ []
    more = take_more (routes_in routes) (place + 1) [] (omega (arith, long, within))
        ∙ ap (λ (r : List ℕ). take (place + 1) (routes_in routes) ++ r ∷ []) here

-- a route that does not go off ends it
pub walked_none : (topology : DeclaredTopology) (routes : List (Vec ℕ)) (rest : List (Vec ℕ)) (place : ℕ)
    (legs : DeclaredLegs) (route : Vec ℕ) → place < length rest → route ≡ get_or rest place route
    → IsWalked topology routes rest place legs → None ≡ with_route topology legs route.items
    → None ≡ legs_found topology (routes_in routes)
walked_none topology routes rest place legs route within is so_far none =
    ap (option_and_then (λ n. with_routes topology n (drop (place + 1) (routes_in rest)))) none
    ∙ left_at topology routes rest place legs route so_far within is

-- behind the last route all are there
pub walked_all : (topology : DeclaredTopology) (routes : List (Vec ℕ)) (rest : List (Vec ℕ)) (place : ℕ)
    (legs : DeclaredLegs) → length rest ≤ place → IsWalked topology routes rest place legs
    → Some legs ≡ legs_found topology (routes_in routes)
walked_all topology routes rest place legs past so_far =
    let none : drop place (routes_in rest) ≡ [] =
    drop_all place (routes_in rest) (omega (arith, past, length-map rest (λ (r : Vec ℕ). r.items))) in
    sym (ap (with_routes topology legs) none) ∙ so_far.left

pub walked_have : (topology : DeclaredTopology) (routes : List (Vec ℕ)) (first : Vec ℕ) (rest : List (Vec ℕ))
    (place : ℕ) (legs : DeclaredLegs) → routes ≡ first ∷ rest → length rest ≤ place
    → IsWalked topology routes rest place legs → HaveRoutes topology (routes_in routes) legs
walked_have topology routes first rest place legs cut past so_far =
    subst (λ (rs : List (List ℕ)). HaveRoutes topology rs legs)
    (take_all (place + 1) (routes_in routes) (omega (
      arith,
      past,
      length-map routes (λ (r : Vec ℕ). r.items),
      ap (λ (rs : List (Vec ℕ)). length rs) cut,
    ))) so_far.have

-- the first routes as lists
pub routes_taken : (n : ℕ) (routes : List (Vec ℕ)) → routes_in (take n routes) ≡ take n (routes_in routes)
routes_taken zero routes = refl
routes_taken (suc n) [] = refl
routes_taken (suc n) (r ∷ routes) = ap (λ (rs : List (List ℕ)). r.items ∷ rs) (routes_taken n routes)

pub valid_behind : (topology : DeclaredTopology) (routes : List (Vec ℕ)) (first : Vec ℕ) (rest : List (Vec ℕ))
    (place : ℕ) (route : Vec ℕ) → routes ≡ first ∷ rest → All (IsValidPath topology) (routes_in routes)
    → place < length rest → route ≡ get_or rest place route → IsValidPath topology route.items
valid_behind topology routes first rest place route cut valid within is =
    subst (IsValidPath topology) (route_behind routes first rest place route cut within is)
    (valid (place + 1) [] (omega (
      arith,
      within,
      length-map routes (λ (r : Vec ℕ). r.items),
      ap (λ (rs : List (Vec ℕ)). length rs) cut,
    )))
