use Rattle.std.specs.Prelude.{◌≡◌, ℕ, List, length, slice_index_or, Option, Some, None}
use Rattle.std.specs.Global.{Vec}
use Rattle.ats_topology.specs.Search.{AreDistances}
use Rattle.ats_topology.specs.Topology.{DeclaredTopology}
use Rattle.ats_topology.specs.declared.kept_walks.KeptWalks.{KeptWalks}

-- for each node of a topology the number of ports of the shortest walks from it to one node
pub record AreDistancesTo (topology : DeclaredTopology) (to : ℕ) (distances : List (Option ℕ)) : Type 0 where
  pub long : length distances ≡ length topology.nodes
  pub exact : AreDistances topology.ports to distances

-- the distances that are kept for a node, where a search was made for it
abbrev pub kept_for : KeptWalks → ℕ → Option (Vec (Option ℕ))
kept_for walks to = slice_index_or walks.kept.items to None

-- there is a place for each node of a topology, and the distances that are kept for a node are those to this node
pub record AreKeptFor (topology : DeclaredTopology) (walks : KeptWalks) : Type 0 where
  pub long : length walks.kept.items ≡ length topology.nodes
  pub each : (to : ℕ) (distances : Vec (Option ℕ)) → kept_for walks to ≡ Some distances
      → AreDistancesTo topology to distances.items
