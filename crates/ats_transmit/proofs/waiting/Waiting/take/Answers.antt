use Rattle.std.proofs.Common.{ap, arith, length}
use Rattle.ats_transmit.proofs.Fronts.{seen-length}
use Rattle.ats_transmit.proofs.waiting.Waiting.take.Goals as goal

pub take-requires-clause-classes : goal.take-requires-clause-classes
take-requires-clause-classes g c =
    let i = c.self.inside in
    omega (arith, c.requires, ap length c.self.view_is, seen-length i.front i.queues.items)
