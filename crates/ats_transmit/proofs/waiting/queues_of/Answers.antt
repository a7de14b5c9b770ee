use Rattle.std.proofs.Common.{arith}
use Rattle.ats_transmit.proofs.Queues.{empty_more}
use Rattle.ats_transmit.proofs.waiting.queues_of.Goals as goal

pub loop-room-preserved : goal.loop-room-preserved
loop-room-preserved g c =
    rw c.in_ok-push.ensures.items
    (empty_more c.loop-room.queues.items c.in_ok-open.field-0 c.args.rooms.now c.loop-room.room-index c.args.tie
    (omega arith) c.in_ok-open.ensures c.loop-room.invariant)
