use Rattle.std.proofs.Common.{arith, subst, sym}
use Rattle.ats_trace.specs.HopRecord.{HopRecord, IsEligible}
use Rattle.ats_run_records.proofs.Closing.{records-write, told-again}
use Rattle.ats_run_records.proofs.Writes.{in-place, in-rows, room-is, count-is, last-is, laid-send, view-send}
use Rattle.ats_run_records.proofs.whole.WholeStore.send.Goals as goal

pub index-span-requires : goal.index-span-requires
index-span-requires c =
    omega (arith, c.requires.row, in-rows c.self.invariant c.self.view_is, c.self.invariant.laid.spanned)

pub overflow_sub-place : goal.overflow_sub-place
overflow_sub-place c =
    omega (
      arith,
      count-is (in-place c.self.invariant c.self.view_is c.requires.row c.index-span.ensures),
      c.requires.last,
    )

pub index_mut-requires : goal.index_mut-requires
index_mut-requires c =
    let place = in-place c.self.invariant c.self.view_is c.requires.row c.index-span.ensures in
    let room = room-is place in
    omega (arith, count-is place, c.requires.last, room.counts, room.within)

pub send-requires-clause-eligible : goal.send-requires-clause-eligible
send-requires-clause-eligible c =
    let place = in-place c.self.invariant c.self.view_is c.requires.row c.index-span.ensures in
    subst (λ (hop : HopRecord). IsEligible hop.verdict)
    (sym (last-is c.index_mut.result.now place c.requires.last c.index_mut.ensures.value)) c.requires.eligible

pub invariant_of-self : goal.invariant_of-self
invariant_of-self c =
    records-write c.self.invariant
    (laid-send _ _ (in-place c.self.invariant c.self.view_is c.requires.row c.index-span.ensures))

pub returns : goal.returns
returns c =
    let place = in-place c.self.invariant c.self.view_is c.requires.row c.index-span.ensures in
    told-again _ _ _ _ _ _ c.self.view_is
    (view-send c.index_mut.result.now c.send.new.self c.args.start c.args.end place c.requires.last
    c.index_mut.ensures.value c.send.ensures)
