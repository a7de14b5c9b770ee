use Rattle.std.proofs.Common.{◌≤◌, length}
use Rattle.ats_transmit.specs.PortQueues.{NoneFrom}
use Rattle.ats_transmit.proofs.choice.highest_class.Given as goal

-- no frame of the classes from here on is eligible
abbrev pub invariant-loop-class : goal.invariant-loop-class
invariant-loop-class g l = (l.class ≤ length l.queues) × NoneFrom l.now.0 l.class l.queues
