use Rattle.ats_events.proofs.Histories.{entries_are_the_rest}
use Rattle.ats_events.proofs.laws.entries_are_the_rest.Goals as goal

pub returns : goal.returns
returns g c capacity order steps now made =
    entries_are_the_rest (g.O.TimeOrder.before order) capacity order steps now made
