use Rattle.std.proofs.Common.{◌++◌, ap, ◌∙◌, arith}
use Rattle.ats_network.specs.Senders.{sender_at}
use Rattle.ats_trace.specs.Stored.{travel_at}
use Rattle.ats_trace.specs.declared.journey.Release.{Release}
use Rattle.ats_replay.specs.Departures.{frame_line}
use Rattle.ats_replay.proofs.Legs.{journey_written, next_copy}
use Rattle.ats_replay.proofs.journey.write_journey.Goals as goal

pub loop-leg-preserved : goal.loop-leg-preserved
loop-leg-preserved c =
    next_copy c.args.network.now.topology
    (sender_at c.args.network.now (travel_at c.args.run.now c.args.frame).release.sender)
    (travel_at c.args.run.now c.args.frame) c.loop-leg.leg c.write_leg.new.out.items c.loop-leg.out.items
    c.write_copy.new.out.items (omega arith) (omega (arith, c.legs-leg-end.ensures)) c.loop-leg.invariant
    c.in_ok-write_copy.ensures

pub returns : goal.returns
returns c =
    journey_written c.args.network.now c.args.frame c.loop-leg.leg (travel_at c.args.run.now c.args.frame)
    c.args.out.now.items c.write_frame.new.out.items c.write_leg.new.out.items c.loop-leg.out.items
    (omega (arith, c.legs-leg-end.ensures))
    (c.in_ok-write_frame.ensures
    ∙ ap (λ (r : Release). c.args.out.now.items ++ frame_line c.args.network.now c.args.frame r)
    c.release_of-release.ensures)
    c.in_ok-write_leg.ensures c.loop-leg.invariant
