use Rattle.std.specs.Prelude.{◌≡◌, ℕ, List}
use Rattle.ats_streams.specs.Branches.{AreBranches, routes_of}
use Rattle.ats_streams.specs.declared.branch.Branch.{Branch}
use Rattle.ats_topology.specs.Topology.{DeclaredTopology}
use Rattle.ats_network.specs.Path.{IsTree}

-- the legs of a stream: the ports of its trunk and then of each branch, and the branches
pub record DeclaredLegs : Type 0 where
  pub ports : List ℕ
  pub branches : List Branch

-- legs make a tree, whose routes are these
pub record HaveRoutes (topology : DeclaredTopology) (routes : List (List ℕ)) (legs : DeclaredLegs) : Type 0 where
  pub are : AreBranches legs.ports legs.branches
  pub tree : IsTree topology legs.ports legs.branches
  pub routes_are : routes_of legs.ports legs.branches ≡ routes

-- there are legs that have these routes
pub record HasLegs (topology : DeclaredTopology) (routes : List (List ℕ)) : Type 0 where
  pub legs : DeclaredLegs
  pub have : HaveRoutes topology routes legs
