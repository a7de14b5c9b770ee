use Rattle.std.proofs.Common.{take}
use Rattle.ats_transmit.specs.PortQueues.{queued_of, NextTimeIn}
use Rattle.ats_transmit.proofs.choice.next_time.Given as goal

-- the least time of the queues so far
abbrev pub invariant-loop-queue : goal.invariant-loop-queue
invariant-loop-queue g l = NextTimeIn (queued_of (take l.queue-index l.queues)) l.next
