use Rattle.std.proofs.Common.{arith, refl}
use Rattle.ats_trace.specs.Journey.{Travel, IsJourney}
use Rattle.ats_trace.specs.Stored.{no_travel, travel_at}
use Rattle.ats_buffer.proofs.Visits.{legs_more, legs_over}
use Rattle.ats_buffer.proofs.moments.push_frame.Goals as goal

pub loop-leg-init : goal.loop-leg-init
loop-leg-init c = refl

pub loop-leg-preserved : goal.loop-leg-preserved
loop-leg-preserved c =
    let j : Travel = travel_at c.args.run.now c.args.frame in
    let is : IsJourney c.args.network.now j = c.requires.legal.journeys c.args.frame no_travel c.requires.frame in
    legs_more c.args.network.now c.args.frame j c.loop-leg.leg c.loop-leg.moments.items c.push_leg.new.moments.items _
    is (omega (arith, c.loop-leg-test.true, c.legs-leg-end.ensures)) c.in_ok-push_leg.ensures c.loop-leg.invariant

pub returns : goal.returns
returns c =
    let j : Travel = travel_at c.args.run.now c.args.frame in
    let is : IsJourney c.args.network.now j = c.requires.legal.journeys c.args.frame no_travel c.requires.frame in
    legs_over c.args.network.now c.args.frame j c.loop-leg.leg c.loop-leg.moments.items _ is
    (omega (arith, c.loop-leg-test.false, c.legs-leg-end.ensures)) c.loop-leg.invariant
