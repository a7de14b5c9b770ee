use Rattle.std.proofs.Common.{sym, ◌∙◌}
use Rattle.ats_engine.proofs.Telling.{at-event}
use Rattle.ats_engine.proofs.runner.RunnerActor.handle.Goals as goal

pub come-requires : goal.come-requires
come-requires g c =
    at-event c.args.agenda.now (sym c.of.ensures ∙ c.in-Arrival.is) c.requires.holds c.requires.last c.requires.first

pub become_eligible-requires : goal.become_eligible-requires
become_eligible-requires g c =
    at-event c.args.agenda.now (sym c.of.ensures ∙ c.in-Eligibility.is) c.requires.holds c.requires.last
    c.requires.first

pub select-requires : goal.select-requires
select-requires g c =
    at-event c.args.agenda.now (sym c.of.ensures ∙ c.in-Selection.is) c.requires.holds c.requires.last c.requires.first
