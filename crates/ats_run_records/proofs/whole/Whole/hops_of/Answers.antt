use Rattle.std.proofs.Common.{◌+◌, length, ap, ◌∙◌, List, slice_range, arith}
use Rattle.ats_trace.specs.HopRecord.{HopRecord}
use Rattle.ats_run_records.proofs.Writes.{in-place, in-rows, hops-is, room-is}
use Rattle.ats_run_records.proofs.whole.Whole.hops_of.Goals as goal

pub index-span-requires : goal.index-span-requires
index-span-requires c =
    omega (arith, c.requires, in-rows c.self.invariant c.self.view_is, c.self.invariant.laid.spanned)

pub slice_bounds-result-end : goal.slice_bounds-result-end
slice_bounds-result-end c =
    let room = room-is (in-place c.self.invariant c.self.view_is c.requires c.index-span.ensures) in
    omega (arith, room.counts, room.within, ap (λ (hs : List HopRecord). length hs) c.deref.ensures.value)

pub returns : goal.returns
returns c =
    let span = c.index-span.result.now in
    ap (λ (hs : List HopRecord). slice_range hs span.first (span.first + span.count)) c.deref.ensures.value
    ∙ hops-is (in-place c.self.invariant c.self.view_is c.requires c.index-span.ensures)
