use Rattle.std.proofs.Common.{◌++◌, ap, ◌∙◌, get_or}
use Rattle.ats_trace.specs.HopRecord.{HopRecord}
use Rattle.ats_replay.specs.Departures.{hop_line}
use Rattle.ats_replay.proofs.Journeys.{next_hop}
use Rattle.ats_replay.proofs.journey.write_hops.Goals as goal

pub loop-place-preserved : goal.loop-place-preserved
loop-place-preserved c = next_hop c.args.topology.now c.args.path.now c.args.hops.now c.loop-place.place 0
    c.index-hops-place.result c.args.out.now.items c.loop-place.out.items c.write_hop.new.out.items
    c.loop-place-test.true c.requires.fit c.loop-place.invariant
    (c.in_ok-write_hop.ensures
    ∙ ap (λ (hop : HopRecord). c.loop-place.out.items
    ++ hop_line c.args.topology.now (get_or c.args.path.now c.loop-place.place 0, hop))
    c.index-hops-place.is)
