use Rattle.std.proofs.Common.{◌≡◌, ◌+◌, ◌-◌, ◌≤◌, length, drop}
use Rattle.ats_topology.specs.Search.{unreached}
use Rattle.ats_topology.proofs.Searching.{IsSearch}
use Rattle.ats_topology.proofs.walks.distances.Given as goal

-- the nodes from the head on wait
abbrev pub invariant-loop-head : goal.invariant-loop-head
invariant-loop-head l = record {
  long : length l.distances.items ≡ l.table.nodes;
  count : unreached l.distances.items + length l.queue.items ≡ l.table.nodes;
  within : l.head ≤ length l.queue.items;
  search : IsSearch l.table.ports l.to l.distances.items l.head (drop l.head l.queue.items);
}

abbrev pub decreases-loop-head : goal.decreases-loop-head
decreases-loop-head l = l.table.nodes - l.head
