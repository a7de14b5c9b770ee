use Rattle.std.proofs.Common.{arith}
use Rattle.ats_trace.specs.Stored.{no_travel}
use Rattle.ats_replay.specs.Departures.{journey_text}
use Rattle.ats_replay.proofs.Numbered.{all_numbered, next_numbered}
use Rattle.ats_replay.proofs.printing.write_journeys.Goals as goal

pub write_journey-requires-clause-journey : goal.write_journey-requires-clause-journey
write_journey-requires-clause-journey c =
    c.requires c.loop-frame.frame no_travel (omega (arith, c.len-frame-end.ensures.value))

pub loop-frame-preserved : goal.loop-frame-preserved
loop-frame-preserved c = next_numbered (journey_text c.args.network.now) c.args.run.now c.loop-frame.frame no_travel
    c.args.out.now.items c.loop-frame.out.items c.write_journey.new.out.items
    (omega (arith, c.len-frame-end.ensures.value)) c.loop-frame.invariant c.in_ok-write_journey.ensures

pub returns : goal.returns
returns c = all_numbered (journey_text c.args.network.now) c.args.run.now c.loop-frame.frame c.args.out.now.items
    c.loop-frame.out.items (omega (arith, c.len-frame-end.ensures.value)) c.loop-frame.invariant
