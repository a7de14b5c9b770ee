use Rattle.std.proofs.Common.{ℕ, ◌+◌, ◌*◌, ◌<◌, ◌≤◌, ◌++◌, length, All, refl, subst, sym, arith}
use Rattle.std.specs.Option.{option_to_list}
use Rattle.std.specs.Prelude.{Contains}
use Rattle.ats_num.specs.Wire.{bits_of}
use Rattle.ats_num.specs.declared.time.TheConstants.{END}
use Rattle.ats_network.specs.Network.{senders_of}
use Rattle.ats_network.specs.Senders.{sender_at}
use Rattle.ats_trace.specs.declared.journey.Release.{Release}
use Rattle.ats_transmit.specs.Picks.{MaySend}
use Rattle.ats_transmit.specs.State.{PortState}
use Rattle.ats_transmit.specs.declared.offer.Offer.{Offer}
use Rattle.ats_run_records.specs.Progress.{Progress, progress_at, with_sent}
use Rattle.ats_engine_steps.specs.Course.{sender_of}
use Rattle.ats_engine_steps.specs.Seen.{course_of}
use Rattle.ats_engine_steps.specs.Steps.{selections}
use Rattle.ats_engine_steps.proofs.Stepping.{arrives-read, named-leg, port-read, same-behind, selected, sent-read}
use Rattle.ats_engine_steps.proofs.Stepping.{sent-many, started-ends, started-there}
use Rattle.ats_engine_steps.proofs.steps.select.Goals as goal

pub select-pick-requires-clause-due : goal.select-pick-requires-clause-due
select-pick-requires-clause-due g c =
    let old = course_of {T = g.row.T.Denot} c.args.state.now in
    let was = port-read old c.args.port c.index_mut-standing.result.now c.requires.within
    c.index_mut-standing.ensures.value in
    subst (λ (s : PortState g.row.T.Denot). (time : ℕ) → MaySend s.held s.sent time → c.args.now.at.0 ≤ time) (sym was)
    c.requires.due.first

pub release-requires : goal.release-requires
release-requires g c =
    let old = course_of {T = g.row.T.Denot} c.args.state.now in
    let was = port-read old c.args.port c.index_mut-standing.result.now c.requires.within
    c.index_mut-standing.ensures.value in
    let there = started-there _ c.args.net.now old c.args.port _ _ _ _ _ was c.in-Start.ensures.pick.1
    c.requires.there in
    there.trunk

pub leg_with-leg-requires-clause-sender : goal.leg_with-leg-requires-clause-sender
leg_with-leg-requires-clause-sender g c =
    let old = course_of {T = g.row.T.Denot} c.args.state.now in
    let was = port-read old c.args.port c.index_mut-standing.result.now c.requires.within
    c.index_mut-standing.ensures.value in
    let there = started-there _ c.args.net.now old c.args.port _ _ _ _ _ was c.in-Start.ensures.pick.1
    c.requires.there in
    subst (λ (r : Release). r.sender < length (senders_of c.args.net.now)) (sym c.release.ensures) there.sender

pub leg_with-leg-requires-clause-passes : goal.leg_with-leg-requires-clause-passes
leg_with-leg-requires-clause-passes g c =
    let old = course_of {T = g.row.T.Denot} c.args.state.now in
    let was = port-read old c.args.port c.index_mut-standing.result.now c.requires.within
    c.index_mut-standing.ensures.value in
    let there = started-there _ c.args.net.now old c.args.port _ _ _ _ _ was c.in-Start.ensures.pick.1
    c.requires.there in
    subst (λ (r : Release). Contains (sender_at c.args.net.now r.sender).ports c.args.port) (sym c.release.ensures)
    there.passes

pub row_of-row-requires-clause-frame : goal.row_of-row-requires-clause-frame
row_of-row-requires-clause-frame g c =
    let old = course_of {T = g.row.T.Denot} c.args.state.now in
    let was = port-read old c.args.port c.index_mut-standing.result.now c.requires.within
    c.index_mut-standing.ensures.value in
    let there = started-there _ c.args.net.now old c.args.port _ _ _ _ _ was c.in-Start.ensures.pick.1
    c.requires.there in
    there.numbered

pub row_of-row-requires-clause-there : goal.row_of-row-requires-clause-there
row_of-row-requires-clause-there g c =
    let old = course_of {T = g.row.T.Denot} c.args.state.now in
    let was = port-read old c.args.port c.index_mut-standing.result.now c.requires.within
    c.index_mut-standing.ensures.value in
    let there = started-there _ c.args.net.now old c.args.port _ _ _ _ _ was c.in-Start.ensures.pick.1
    c.requires.there in
    let named = named-leg c.args.net.now old c.in-Start.frame c.args.port c.leg_with-leg.result _
    c.release.result c.release.ensures c.leg_with-leg.ensures.leg c.leg_with-leg.ensures.has refl in
    (there.came _ named).within

pub send-requires : goal.send-requires
send-requires g c =
    let old = course_of {T = g.row.T.Denot} c.args.state.now in
    let was = port-read old c.args.port c.index_mut-standing.result.now c.requires.within
    c.index_mut-standing.ensures.value in
    let there = started-there _ c.args.net.now old c.args.port _ _ _ _ _ was c.in-Start.ensures.pick.1
    c.requires.there in
    let named = named-leg c.args.net.now old c.in-Start.frame c.args.port c.leg_with-leg.result c.row_of-row.result
    c.release.result c.release.ensures c.leg_with-leg.ensures.leg c.leg_with-leg.ensures.has c.row_of-row.ensures in
    let came = there.came c.row_of-row.result named in
    record {
      row = came.within;
      last = came.came;
      eligible = there.eligible c.row_of-row.result named;
      in_time = c.requires.time;
    }

pub arrival_behind-at-requires-clause-end : goal.arrival_behind-at-requires-clause-end
arrival_behind-at-requires-clause-end g c =
    let old = course_of {T = g.row.T.Denot} c.args.state.now in
    let was = port-read old c.args.port c.index_mut-standing.result.now c.requires.within
    c.index_mut-standing.ensures.value in
    started-ends _ c.index_mut-standing.result.now c.select-pick.new.self c.args.now.at.0 c.in-Start.frame
    c.in-Start.end.0 END c.in-Start.ensures.pick.1
    (subst (λ (s : PortState g.row.T.Denot).
    All (λ (o : Offer). c.args.now.at.0 + s.ps_per_bit * bits_of o.octets ≤ END) s.held) (sym was) c.requires.ends)

pub leave-arrival-requires-clause-stages : goal.leave-arrival-requires-clause-stages
leave-arrival-requires-clause-stages g c =
    let old = course_of {T = g.row.T.Denot} c.args.state.now in
    let was = port-read old c.args.port c.index_mut-standing.result.now c.requires.within
    c.index_mut-standing.ensures.value in
    let there = started-there _ c.args.net.now old c.args.port _ _ _ _ _ was c.in-Start.ensures.pick.1
    c.requires.there in
    let named = named-leg c.args.net.now old c.in-Start.frame c.args.port c.leg_with-leg.result c.row_of-row.result
    c.release.result c.release.ensures c.leg_with-leg.ensures.leg c.leg_with-leg.ensures.has c.row_of-row.ensures in
    let came = there.came c.row_of-row.result named in
    omega (arith, c.requires.stages, came.within)

pub leave-arrival-requires-clause-records : goal.leave-arrival-requires-clause-records
leave-arrival-requires-clause-records g c =
    let old = course_of {T = g.row.T.Denot} c.args.state.now in
    let was = port-read old c.args.port c.index_mut-standing.result.now c.requires.within
    c.index_mut-standing.ensures.value in
    let there = started-there _ c.args.net.now old c.args.port _ _ _ _ _ was c.in-Start.ensures.pick.1
    c.requires.there in
    let named = named-leg c.args.net.now old c.in-Start.frame c.args.port c.leg_with-leg.result c.row_of-row.result
    c.release.result c.release.ensures c.leg_with-leg.ensures.leg c.leg_with-leg.ensures.has c.row_of-row.ensures in
    let came = there.came c.row_of-row.result named in
    let many = sent-many old.records old.firsts c.send.new.self c.row_of-row.result
    (with_sent (progress_at old.records c.row_of-row.result) c.args.now.at c.in-Start.end) c.send.ensures in
    omega (arith, many, came.within)

pub leave-arrival-requires-clause-sender : goal.leave-arrival-requires-clause-sender
leave-arrival-requires-clause-sender g c =
    let old = course_of {T = g.row.T.Denot} c.args.state.now in
    let was = port-read old c.args.port c.index_mut-standing.result.now c.requires.within
    c.index_mut-standing.ensures.value in
    let there = started-there _ c.args.net.now old c.args.port _ _ _ _ _ was c.in-Start.ensures.pick.1
    c.requires.there in
    let named = named-leg c.args.net.now old c.in-Start.frame c.args.port c.leg_with-leg.result c.row_of-row.result
    c.release.result c.release.ensures c.leg_with-leg.ensures.leg c.leg_with-leg.ensures.has c.row_of-row.ensures in
    let came = there.came c.row_of-row.result named in
    let same = sent-read old.records old.firsts c.send.new.self c.row_of-row.result c.args.now.at c.in-Start.end
    came.within c.send.ensures in
    subst (λ (p : Progress). p.release.sender < length (senders_of c.args.net.now)) (sym same) came.sender

pub leave-arrival-requires-clause-leg : goal.leave-arrival-requires-clause-leg
leave-arrival-requires-clause-leg g c =
    let old = course_of {T = g.row.T.Denot} c.args.state.now in
    let was = port-read old c.args.port c.index_mut-standing.result.now c.requires.within
    c.index_mut-standing.ensures.value in
    let there = started-there _ c.args.net.now old c.args.port _ _ _ _ _ was c.in-Start.ensures.pick.1
    c.requires.there in
    let named = named-leg c.args.net.now old c.in-Start.frame c.args.port c.leg_with-leg.result c.row_of-row.result
    c.release.result c.release.ensures c.leg_with-leg.ensures.leg c.leg_with-leg.ensures.has c.row_of-row.ensures in
    let came = there.came c.row_of-row.result named in
    let same = sent-read old.records old.firsts c.send.new.self c.row_of-row.result c.args.now.at c.in-Start.end
    came.within c.send.ensures in
    subst (λ (p : Progress). p.leg ≤ length (sender_of c.args.net.now p).branches) (sym same) came.leg

pub returns : goal.returns
returns g c =
    let old = course_of {T = g.row.T.Denot} c.args.state.now in
    let was = port-read old c.args.port c.index_mut-standing.result.now c.requires.within
    c.index_mut-standing.ensures.value in
    let there = started-there _ c.args.net.now old c.args.port _ _ _ _ _ was c.in-Start.ensures.pick.1
    c.requires.there in
    let named = named-leg c.args.net.now old c.in-Start.frame c.args.port c.leg_with-leg.result c.row_of-row.result
    c.release.result c.release.ensures c.leg_with-leg.ensures.leg c.leg_with-leg.ensures.has c.row_of-row.ensures in
    let row : ℕ = c.row_of-row.result in
    let came = there.came row named in
    let listed : c.args.port < length old.arrives_from =
    omega (arith, c.requires.arrivals, c.requires.within) in
    let from = arrives-read old c.args.port c.index-from.result.now listed c.index-from.ensures in
    selected g.T.Tie.key (g.P.Pace.wait c.args.pace.now) c.args.net.now old c.args.now c.args.port c.in-Start.frame row
    c.in-Start.end c.index-from.result.now c.arrival_behind-at.result c.index_mut-standing.result.now
    c.select-pick.new.self c.finish.new.self c.link_of-link.result c.turn_of-turn.result
    c.leave-arrival.new.stages c.send.new.self c.leave-arrival.new.records
    (option_to_list c.leave-arrival.result)
    (option_to_list c.leave-arrival.result ++ option_to_list c.selection_of.result)
    was c.requires.tie c.in-Start.ensures.pick.1 c.finish.ensures.rest c.finish.ensures.lawful c.turn_of-turn.ensures
    named came.within c.link_of-link.ensures from c.arrival_behind-at.ensures.value c.send.ensures
    c.leave-arrival.ensures.stages c.leave-arrival.ensures.records c.leave-arrival.ensures.entries
    (same-behind (option_to_list c.leave-arrival.result) (option_to_list c.selection_of.result)
    (selections c.args.port c.turn_of-turn.result) c.selection_of.ensures)
