use Rattle.std.proofs.Common.{ap}
use Rattle.ats_engine_steps.specs.Course.{Course}
use Rattle.ats_engine_proofs.proofs.Allowed.{may-come}
use Rattle.ats_engine_proofs.proofs.Entries.{comes-after}
use Rattle.ats_engine_proofs.proofs.Kept.{comes-holds}
use Rattle.ats_engine_proofs.proofs.Times.{comes-less}
use Rattle.ats_engine.proofs.AtOnce.{offered-may, proceeds}
use Rattle.ats_engine.proofs.Coming.{enters-begun, enters-none, has-come, may-enter-begun}
use Rattle.ats_engine.proofs.Going.{is-next, may-enter, goes}
use Rattle.ats_engine.proofs.Joining.{enters-both, may-enter-earlier}
use Rattle.ats_engine.proofs.runner.Runner.come.Goals as goal

pub hops-hop-requires : goal.hops-hop-requires
hops-hop-requires g c =
    let next =
    is-next c.requires g.met.O.TimeOrder.irreflexive g.met.O.TimeOrder.transitive g.met.O.TimeOrder.timed in
    (may-come next).may_come.room.within

pub come-due-requires-clause-schedulers : goal.come-due-requires-clause-schedulers
come-due-requires-clause-schedulers g c = c.requires.ready.schedulers

pub come-due-requires-clause-may_come : goal.come-due-requires-clause-may_come
come-due-requires-clause-may_come g c =
    may-come
    (is-next c.requires g.met.O.TimeOrder.irreflexive g.met.O.TimeOrder.transitive g.met.O.TimeOrder.timed)

pub enter_begun-requires-clause-row : goal.enter_begun-requires-clause-row
enter_begun-requires-clause-row g c =
    let next =
    is-next c.requires g.met.O.TimeOrder.irreflexive g.met.O.TimeOrder.transitive g.met.O.TimeOrder.timed in
    (has-come _ (may-come next) c.come-due.ensures c.hops-hop.ensures).within

pub enter_begun-requires-clause-sender : goal.enter_begun-requires-clause-sender
enter_begun-requires-clause-sender g c =
    let next =
    is-next c.requires g.met.O.TimeOrder.irreflexive g.met.O.TimeOrder.transitive g.met.O.TimeOrder.timed in
    (has-come _ (may-come next) c.come-due.ensures c.hops-hop.ensures).sender

pub enter_begun-requires-clause-frame : goal.enter_begun-requires-clause-frame
enter_begun-requires-clause-frame g c =
    let next =
    is-next c.requires g.met.O.TimeOrder.irreflexive g.met.O.TimeOrder.transitive g.met.O.TimeOrder.timed in
    (has-come _ (may-come next) c.come-due.ensures c.hops-hop.ensures).frame

pub enter_begun-requires-clause-there : goal.enter_begun-requires-clause-there
enter_begun-requires-clause-there g c =
    let next =
    is-next c.requires g.met.O.TimeOrder.irreflexive g.met.O.TimeOrder.transitive g.met.O.TimeOrder.timed in
    (has-come _ (may-come next) c.come-due.ensures c.hops-hop.ensures).there

pub enter_begun-requires-clause-entries : goal.enter_begun-requires-clause-entries
enter_begun-requires-clause-entries g c =
    let next =
    is-next c.requires g.met.O.TimeOrder.irreflexive g.met.O.TimeOrder.transitive g.met.O.TimeOrder.timed in
    let come = has-come _ (may-come next) c.come-due.ensures c.hops-hop.ensures in
    may-enter-begun c.args.row c.in-Some.is come.same
    (may-enter c.requires g.met.O.TimeOrder.timed (comes-holds next c.come-due.ensures)
    (comes-after next c.come-due.ensures))

pub offer_or_leave-entry-requires : goal.offer_or_leave-entry-requires
offer_or_leave-entry-requires g c =
    let next =
    is-next c.requires g.met.O.TimeOrder.irreflexive g.met.O.TimeOrder.transitive g.met.O.TimeOrder.timed in
    offered-may next c.come-due.ensures c.in-Some.is

pub enter-requires : goal.enter-requires
enter-requires g c =
    let next =
    is-next c.requires g.met.O.TimeOrder.irreflexive g.met.O.TimeOrder.transitive g.met.O.TimeOrder.timed in
    let come = has-come _ (may-come next) c.come-due.ensures c.hops-hop.ensures in
    let goes_on = proceeds next c.come-due.ensures c.in-Some.is c.offer_or_leave-entry.ensures.offered
    c.offer_or_leave-entry.ensures.left in
    may-enter-earlier (may-enter c.requires g.met.O.TimeOrder.timed goes_on.holds goes_on.after)
    (enters-begun c.in-Some.at come.same c.enter_begun.ensures)

pub returns-in-Some : goal.returns-in-Some
returns-in-Some g c =
    let next =
    is-next c.requires g.met.O.TimeOrder.irreflexive g.met.O.TimeOrder.transitive g.met.O.TimeOrder.timed in
    let come = has-come _ (may-come next) c.come-due.ensures c.hops-hop.ensures in
    let goes_on = proceeds next c.come-due.ensures c.in-Some.is c.offer_or_leave-entry.ensures.offered
    c.offer_or_leave-entry.ensures.left in
    goes c.offer_or_leave-entry.new.state c.requires goes_on.holds goes_on.less goes_on.tie
    (enters-both (enters-begun c.in-Some.at come.same c.enter_begun.ensures) c.enter.ensures)

pub returns-in_default : goal.returns-in_default
returns-in_default g c =
    let next =
    is-next c.requires g.met.O.TimeOrder.irreflexive g.met.O.TimeOrder.transitive g.met.O.TimeOrder.timed in
    goes c.come-due.new.state c.requires (comes-holds next c.come-due.ensures) (comes-less next c.come-due.ensures)
    (ap (λ (course : Course g.row.T.Denot). course.tie) c.come-due.ensures.becomes)
    (enters-none _ c.in_default.not-Some)
