use Rattle.std.proofs.Common.{arith}
use Rattle.ats_transmit.proofs.Queues.{none_in_all}
use Rattle.ats_transmit.proofs.choice.highest_class.Goals as goal

pub returns-clause-none : goal.returns-clause-none
returns-clause-none g c =
    none_in_all c.args.now.0 c.args.queues.now (λ class d from h. c.loop-class.invariant.1 class d (omega arith) h)
