use Rattle.std.specs.Prelude.{◌≡◌, ℕ, ◌+◌, ◌-◌, ◌<◌, List, ◌++◌, length, take, slice_index_or}
use Rattle.ats_streams.specs.Branches.{AreBranches, leg_at, legs_of, no_branch, routes_of, trunk_of}
use Rattle.ats_streams.specs.declared.branch.Branch.{Branch}
use Rattle.ats_topology.specs.Topology.{DeclaredTopology, IsTopology}
use Rattle.ats_network.specs.Bridges.{IsBridgeAt}
use Rattle.ats_network.specs.Path.{IsTree, node_of_branch}

-- the route that ends with the leg of which a branch leaves, up to where the branch begins
abbrev pub up_to : List ℕ → List Branch → Branch → List ℕ
up_to ports branches b =
    take (length (leg_at (routes_of ports branches) b.leg) - length (leg_at (legs_of ports branches) b.leg) + b.hop)
    (leg_at (routes_of ports branches) b.leg)

-- the first route is the trunk, and each further one goes along an earlier one up to where its branch begins, and then
-- along the ports of the branch
pub record TurnOff (ports : List ℕ) (branches : List Branch) : Type 0 where
  pub trunk : leg_at (routes_of ports branches) 0 ≡ trunk_of ports branches
  pub each : (n : ℕ) → n < length branches → leg_at (routes_of ports branches) (1 + n)
      ≡ up_to ports branches (slice_index_or branches n no_branch) ++ leg_at (legs_of ports branches) (1 + n)
  pub many : length (routes_of ports branches) ≡ 1 + length branches

-- so do the routes of all lawful branches
abbrev pub RoutesTurnOff : Type 0
RoutesTurnOff = (ports : List ℕ) (branches : List Branch) → AreBranches ports branches → TurnOff ports branches

-- each branch of a tree begins at a bridge, also where it begins at the talker: a station has one port
abbrev pub BranchesBeginAtBridges : Type 0
BranchesBeginAtBridges = (topology : DeclaredTopology) (ports : List ℕ) (branches : List Branch) → IsTopology topology
    → AreBranches ports branches → IsTree topology ports branches → (n : ℕ) → n < length branches
    → IsBridgeAt topology
    (node_of_branch topology.ports (legs_of ports branches) (slice_index_or branches n no_branch))
