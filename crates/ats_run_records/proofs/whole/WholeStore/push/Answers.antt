use Rattle.std.proofs.Common.{arith}
use Rattle.ats_run_records.proofs.Closing.{records-write, told-again}
use Rattle.ats_run_records.proofs.Writes.{in-place, in-rows, room-is, more-room, laid-push, view-push}
use Rattle.ats_run_records.proofs.whole.WholeStore.push.Goals as goal

pub index_mut-span-requires : goal.index_mut-span-requires
index_mut-span-requires c =
    omega (arith, c.requires.row, in-rows c.self.invariant c.self.view_is, c.self.invariant.laid.spanned)

pub overflow_add-span : goal.overflow_add-span
overflow_add-span c =
    let room = room-is (in-place c.self.invariant c.self.view_is c.requires.row c.index_mut-span.ensures.value) in
    omega (arith, room.counts, room.within, c.self.invariant.laid.counted)

pub index_mut-requires : goal.index_mut-requires
index_mut-requires c =
    let place = in-place c.self.invariant c.self.view_is c.requires.row c.index_mut-span.ensures.value in
    let room = room-is place in
    omega (arith, room.within, more-room place c.requires.room)

pub overflow_add-span-2 : goal.overflow_add-span-2
overflow_add-span-2 c =
    let place = in-place c.self.invariant c.self.view_is c.requires.row c.index_mut-span.ensures.value in
    let room = room-is place in
    omega (arith, room.small, more-room place c.requires.room)

pub invariant_of-self : goal.invariant_of-self
invariant_of-self c =
    let place = in-place c.self.invariant c.self.view_is c.requires.row c.index_mut-span.ensures.value in
    records-write c.self.invariant (laid-push c.args.hop place (more-room place c.requires.room))

pub returns : goal.returns
returns c =
    let place = in-place c.self.invariant c.self.view_is c.requires.row c.index_mut-span.ensures.value in
    told-again _ _ _ _ _ _ c.self.view_is (view-push c.args.hop place (more-room place c.requires.room))
