-- The legs that are found are those that have the routes.
use Rattle.std.proofs.Common.{◌≡◌, ℕ, List, Option, Some, None, refl, sym, ◌∙◌}
use Rattle.std.specs.List.{All}
use Rattle.std.proofs.lemmas.Option.{none-some, same_Some}
use Rattle.ats_topology.specs.Topology.{DeclaredTopology}
use Rattle.ats_network.specs.Path.{IsValidPath}
use Rattle.ats_route_tree.specs.Laws.{LegsAreOne, LegsAreThoseOfRoutes}
use Rattle.ats_route_tree.specs.Legs.{DeclaredLegs, HasLegs}
use Rattle.ats_route_tree.specs.Steps.{legs_found}
use Rattle.ats_route_tree.proofs.Found.{found_valid, legs_once}

-- none are found where there are none
none_found : (topology : DeclaredTopology) (routes : List (List ℕ)) → All (IsValidPath topology) routes
    → ¬ HasLegs topology routes → (o : Option DeclaredLegs) → legs_found topology routes ≡ o → o ≡ None
none_found topology routes valid without None e = refl
none_found topology routes valid without (Some legs) e =
    absurd (without (record { legs = legs; have = found_valid topology routes legs valid e }))

pub legs_are_those_of_routes : LegsAreThoseOfRoutes
legs_are_those_of_routes topology routes valid = record {
  some = λ legs. (found_valid topology routes legs valid, legs_once topology routes legs);
  none = (
    λ e has. none-some has.legs (sym e ∙ legs_once topology routes has.legs has.have),
    λ without. none_found topology routes valid without (legs_found topology routes) refl,
  );
}

pub legs_are_one : LegsAreOne
legs_are_one topology routes legs others have same =
    same_Some legs others (sym (legs_once topology routes legs have) ∙ legs_once topology routes others same)
