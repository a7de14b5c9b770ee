use Rattle.std.proofs.Common.{ap, arith, length}
use Rattle.ats_transmit.proofs.Fronts.{seen-length}
use Rattle.ats_transmit.proofs.waiting.Waiting.insert.Goals as goal

pub hold-self-inside-requires-clause-class : goal.hold-self-inside-requires-clause-class
hold-self-inside-requires-clause-class g c =
    let i = c.self.inside in
    omega (arith, c.requires.class, ap length c.self.view_is, seen-length i.front i.queues.items)
