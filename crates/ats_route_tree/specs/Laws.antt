use Rattle.std.specs.Prelude.{◌≡◌, ◌↔◌, ℕ, List, All, Some, None}
use Rattle.ats_topology.specs.Topology.{DeclaredTopology}
use Rattle.ats_network.specs.Path.{IsValidPath}
use Rattle.ats_route_tree.specs.Legs.{DeclaredLegs, HasLegs, HaveRoutes}
use Rattle.ats_route_tree.specs.Steps.{legs_found}

-- of valid paths the legs that are found are those that have these routes; none are found where there are none
pub record IsRightFor (topology : DeclaredTopology) (routes : List (List ℕ)) : Type 0 where
  pub some : (legs : DeclaredLegs) → (legs_found topology routes ≡ Some legs) ↔ HaveRoutes topology routes legs
  pub none : (legs_found topology routes ≡ None) ↔ ¬ HasLegs topology routes

abbrev pub LegsAreThoseOfRoutes : Type 0
LegsAreThoseOfRoutes = (topology : DeclaredTopology) (routes : List (List ℕ)) → All (IsValidPath topology) routes
    → IsRightFor topology routes

-- no two trees have the same routes
abbrev pub LegsAreOne : Type 0
LegsAreOne = (topology : DeclaredTopology) (routes : List (List ℕ)) (legs others : DeclaredLegs)
    → HaveRoutes topology routes legs → HaveRoutes topology routes others → legs ≡ others
