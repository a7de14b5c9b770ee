use Rattle.std.proofs.Common.{ap}
use Rattle.ats_engine_steps.specs.Course.{Course}
use Rattle.ats_engine_proofs.proofs.Allowed.{may-select}
use Rattle.ats_engine_proofs.proofs.Entries.{selects-after}
use Rattle.ats_engine_proofs.proofs.Kept.{selects-holds}
use Rattle.ats_engine_proofs.proofs.Times.{selects-less}
use Rattle.ats_engine.proofs.Going.{is-next, may-enter, goes}
use Rattle.ats_engine.proofs.runner.Runner.select.Goals as goal

pub select-arrival-requires : goal.select-arrival-requires
select-arrival-requires g c =
    may-select
    (is-next c.requires g.met.O.TimeOrder.irreflexive g.met.O.TimeOrder.transitive g.met.O.TimeOrder.timed)

pub enter_both-requires : goal.enter_both-requires
enter_both-requires g c =
    let next =
    is-next c.requires g.met.O.TimeOrder.irreflexive g.met.O.TimeOrder.transitive g.met.O.TimeOrder.timed in
    let within = g.met.P.Pace.within c.args.self.now.pace in
    may-enter c.requires g.met.O.TimeOrder.timed (selects-holds within next c.select-arrival.ensures)
    (selects-after next c.select-arrival.ensures)

pub returns : goal.returns
returns g c =
    let next =
    is-next c.requires g.met.O.TimeOrder.irreflexive g.met.O.TimeOrder.transitive g.met.O.TimeOrder.timed in
    let within = g.met.P.Pace.within c.args.self.now.pace in
    goes c.select-arrival.new.state c.requires (selects-holds within next c.select-arrival.ensures)
    (selects-less within next c.select-arrival.ensures)
    (ap (λ (course : Course g.row.T.Denot). course.tie) c.select-arrival.ensures.becomes) c.enter_both.ensures
