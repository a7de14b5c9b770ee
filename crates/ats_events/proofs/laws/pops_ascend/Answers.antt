use Rattle.ats_events.proofs.Histories.{pops_ascend}
use Rattle.ats_events.proofs.laws.pops_ascend.Goals as goal

pub returns : goal.returns
returns g c capacity order steps now range made =
    pops_ascend (g.O.TimeOrder.before order) capacity order steps now (g.met.O.TimeOrder.transitive order) range made
