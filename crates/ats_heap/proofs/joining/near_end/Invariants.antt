use Rattle.std.proofs.Common.{ℕ, ◌<◌, ◌≤◌, length, get_or}
use Rattle.ats_heap.specs.Inside.{Leads}
use Rattle.ats_heap.proofs.joining.near_end.Given as goal

-- the item leads all behind the place, which is not before the least
abbrev pub invariant-loop-order : goal.invariant-loop-order
invariant-loop-order g l = record {
  least : l.least ≤ l.place;
  within : l.place < length l.line;
  behind : (k : ℕ) (d : g.row.T.Denot) → l.place < k → k < length l.line
      → Leads (g.O.Precedence.covers l.order) (g.O.Precedence.goes_before l.order) l.item (get_or l.line k d);
}

abbrev pub decreases-loop-order : goal.decreases-loop-order
decreases-loop-order g l = l.place
