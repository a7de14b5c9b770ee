use Rattle.std.proofs.Common.{◌++◌, ℕ, List, IsSome}
use Rattle.std.specs.Prelude.{unwrap_or}
use Rattle.ats_topology.specs.Walks.{IsLeastWalk}
use Rattle.ats_topology.specs.Search.{distance}
use Rattle.ats_topology.proofs.walks.descend.Given as goal

-- with a least walk from here, the walk so far is a least walk
abbrev pub invariant-loop-at : goal.invariant-loop-at
invariant-loop-at l = record {
  least : (rest : List ℕ) → IsLeastWalk l.table.ports l.at l.to rest
      → IsLeastWalk l.table.ports l.from l.to (l.walk.items ++ rest);
  reached : IsSome (distance l.distances l.at);
}

abbrev pub decreases-loop-at : goal.decreases-loop-at
decreases-loop-at l = unwrap_or (distance l.distances l.at) 0
