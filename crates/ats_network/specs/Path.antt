use Rattle.std.specs.Prelude.{ℕ, ◌+◌, ◌<◌, ◌≤◌, ◌≢◌, List, [], ◌∷◌, length, map, AllPairs, slice_index_or}
use Rattle.ats_streams.specs.Branches.{leg_at, legs_of, no_branch}
use Rattle.ats_streams.specs.declared.branch.Branch.{Branch}
use Rattle.ats_topology.specs.Port.{port_at}
use Rattle.ats_topology.specs.Topology.{DeclaredTopology}
use Rattle.ats_topology.specs.Walks.{IsWalk}
use Rattle.ats_topology.specs.declared.port.Port.{Port}

-- the nodes of a path, in order: the one that its first port leaves, and each to which a port leads
abbrev pub nodes_along : List Port → List ℕ → List ℕ
nodes_along ports [] = []
nodes_along ports (p ∷ path) = (port_at ports p).from ∷ map (λ q. (port_at ports q).to) (p ∷ path)

-- a path has a port, each of its ports leaves the node to which the one before leads, and no node occurs twice. It
-- leads from one node, the talker, to another one, the listener; as a station has one link, those between are bridges
pub record IsValidPath (topology : DeclaredTopology) (path : List ℕ) : Type 0 where
  pub talker : ℕ
  pub listener : ℕ
  pub some : 1 ≤ length path
  pub walk : IsWalk topology.ports talker listener path
  pub apart : AllPairs (λ a b. a ≢ b) (nodes_along topology.ports path)

-- the node where a branch begins: the one that the port of its hop leaves
abbrev pub node_of_branch : List Port → List (List ℕ) → Branch → ℕ
node_of_branch ports legs b = (port_at ports (slice_index_or (leg_at legs b.leg) b.hop 0)).from

-- a branch leads, along these ports, from the node where it begins to another one
pub record IsBranch (topology : DeclaredTopology) (legs : List (List ℕ)) (b : Branch) (path : List ℕ) : Type 0 where
  pub listener : ℕ
  pub walk : IsWalk topology.ports (node_of_branch topology.ports legs b) listener path

-- legs make a tree: the trunk is a valid path, each branch leads from the node where it begins to another one, and no
-- node occurs twice among those of the trunk and those to which the ports of branches lead
pub record IsTree (topology : DeclaredTopology) (ports : List ℕ) (branches : List Branch) : Type 0 where
  pub trunk : IsValidPath topology (leg_at (legs_of ports branches) 0)
  pub each : (n : ℕ) → n < length branches → IsBranch topology (legs_of ports branches)
      (slice_index_or branches n no_branch) (leg_at (legs_of ports branches) (1 + n))
  pub apart : AllPairs (λ a b. a ≢ b) (nodes_along topology.ports ports)
