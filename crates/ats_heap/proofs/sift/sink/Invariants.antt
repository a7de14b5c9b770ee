use Rattle.std.proofs.Common.{◌-◌, ◌<◌, length, slice_set, All, IsPermutation}
use Rattle.ats_heap.specs.Inside.{Leads, IsHeapAround}
use Rattle.ats_heap.proofs.sift.sink.Given as goal

-- with whatever item in the hole these are the items
abbrev pub invariant-loop-below : goal.invariant-loop-below
invariant-loop-below g l = record {
  within : l.hole < length l.items;
  covered : All (g.O.Precedence.covers l.order) l.items;
  around : IsHeapAround (Leads (g.O.Precedence.covers l.order) (g.O.Precedence.goes_before l.order)) l.items l.hole;
  items : (item : g.row.T.Denot) → IsPermutation (slice_set l.fn.items 0 item) (slice_set l.items l.hole item);
}

abbrev pub decreases-loop-below : goal.decreases-loop-below
decreases-loop-below g l = length l.items - l.hole
