use Rattle.std.proofs.Common.{◌<◌, length, slice_set, All, IsPermutation}
use Rattle.ats_heap.specs.Inside.{Leads, IsHeapAround, Fits}
use Rattle.ats_heap.proofs.sift.rise.Given as goal

-- with the item in the hole these are the items, and it goes before those below
abbrev pub invariant-loop-above : goal.invariant-loop-above
invariant-loop-above g l = record {
  within : l.hole < length l.items;
  covered : All (g.O.Precedence.covers l.order) l.items;
  around : IsHeapAround (Leads (g.O.Precedence.covers l.order) (g.O.Precedence.goes_before l.order)) l.items l.hole;
  fits : Fits (Leads (g.O.Precedence.covers l.order) (g.O.Precedence.goes_before l.order)) l.items l.hole l.item;
  items : IsPermutation (slice_set l.fn.items l.fn.place l.item) (slice_set l.items l.hole l.item);
}

abbrev pub decreases-loop-above : goal.decreases-loop-above
decreases-loop-above g l = l.hole
