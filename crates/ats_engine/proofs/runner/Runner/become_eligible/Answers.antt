use Rattle.std.proofs.Common.{ap}
use Rattle.ats_engine_steps.specs.Course.{Course}
use Rattle.ats_engine_proofs.proofs.Allowed.{may-be-offered}
use Rattle.ats_engine_proofs.proofs.EligibleNow.{eligible-next}
use Rattle.ats_engine_proofs.proofs.Entries.{offered-after}
use Rattle.ats_engine_proofs.proofs.Kept.{offered-holds}
use Rattle.ats_engine_proofs.proofs.Times.{offered-less}
use Rattle.ats_engine.proofs.Going.{is-next, may-enter, goes}
use Rattle.ats_engine.proofs.runner.Runner.become_eligible.Goals as goal

pub become_eligible-entry-requires : goal.become_eligible-entry-requires
become_eligible-entry-requires g c =
    may-be-offered (eligible-next
    (is-next c.requires g.met.O.TimeOrder.irreflexive g.met.O.TimeOrder.transitive g.met.O.TimeOrder.timed))

pub enter-requires : goal.enter-requires
enter-requires g c =
    let now = eligible-next
    (is-next c.requires g.met.O.TimeOrder.irreflexive g.met.O.TimeOrder.transitive g.met.O.TimeOrder.timed) in
    may-enter c.requires g.met.O.TimeOrder.timed (offered-holds now c.become_eligible-entry.ensures)
    (offered-after now c.become_eligible-entry.ensures)

pub returns : goal.returns
returns g c =
    let now = eligible-next
    (is-next c.requires g.met.O.TimeOrder.irreflexive g.met.O.TimeOrder.transitive g.met.O.TimeOrder.timed) in
    goes c.become_eligible-entry.new.state c.requires (offered-holds now c.become_eligible-entry.ensures)
    (offered-less now c.become_eligible-entry.ensures)
    (ap (λ (course : Course g.row.T.Denot). course.tie) c.become_eligible-entry.ensures.becomes) c.enter.ensures
