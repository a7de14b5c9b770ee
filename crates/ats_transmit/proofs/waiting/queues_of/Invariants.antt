use Rattle.std.proofs.Common.{take}
use Rattle.ats_transmit.specs.PortQueues.{AreEmpty}
use Rattle.ats_transmit.proofs.waiting.queues_of.Given as goal

-- the queues of the rooms so far
abbrev pub invariant-loop-room : goal.invariant-loop-room
invariant-loop-room g l = AreEmpty l.queues.items (take l.room-index l.rooms) l.tie
