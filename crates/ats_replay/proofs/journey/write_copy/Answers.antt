use Rattle.std.proofs.Common.{◌++◌, ap, ◌∙◌}
use Rattle.ats_streams.specs.Branches.{leg_at}
use Rattle.ats_topology.specs.Topology.{DeclaredTopology}
use Rattle.ats_trace.specs.Journey.{legs_at}
use Rattle.ats_trace.specs.Stored.{travel_at}
use Rattle.ats_trace.specs.declared.journey.Release.{Release}
use Rattle.ats_replay.specs.Departures.{station_line}
use Rattle.ats_replay.proofs.Legs.{copy_written, leg_has_port, leg_listed, leg_ports}
use Rattle.ats_replay.proofs.journey.write_copy.Goals as goal

pub sender_leg-path-requires-clause-leg : goal.sender_leg-path-requires-clause-leg
sender_leg-path-requires-clause-leg c =
    rw c.release_of-release.ensures
    (leg_listed c.args.network.now (travel_at c.args.run.now c.args.frame) c.args.leg c.requires.journey
    c.requires.leg.1)

pub write_station-requires-clause-some : goal.write_station-requires-clause-some
write_station-requires-clause-some c =
    rw (c.sender_leg-path.ensures.value, c.release_of-release.ensures)
    (leg_has_port c.args.network.now (travel_at c.args.run.now c.args.frame) c.args.leg c.topology.ensures.rules
    c.requires.journey c.requires.leg.1)

pub write_station-requires-clause-ports : goal.write_station-requires-clause-ports
write_station-requires-clause-ports c =
    rw (c.topology.ensures.value, c.sender_leg-path.ensures.value, c.release_of-release.ensures)
    (leg_ports c.args.network.now (travel_at c.args.run.now c.args.frame) c.args.leg c.topology.ensures.rules
    c.requires.journey c.requires.leg.1)

pub returns : goal.returns
returns c =
    copy_written c.args.network.now (travel_at c.args.run.now c.args.frame) c.args.leg c.sender_leg-path.result.now
    c.args.out.now.items c.write_station.new.out.items c.write_leg.new.out.items c.topology.ensures.rules
    c.requires.journey c.requires.leg.1
    (c.sender_leg-path.ensures.value
    ∙ ap (λ (r : Release). leg_at (legs_at c.args.network.now r.sender) c.args.leg) c.release_of-release.ensures)
    (c.in_ok-write_station.ensures
    ∙ ap (λ (t : DeclaredTopology). c.args.out.now.items ++ station_line t c.sender_leg-path.result.now)
    c.topology.ensures.value)
    c.in_ok-write_leg.ensures
