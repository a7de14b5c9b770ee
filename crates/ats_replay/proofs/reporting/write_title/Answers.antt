use Rattle.std.proofs.Common.{arith}
use Rattle.ats_network.specs.Senders.{sender_at}
use Rattle.ats_streams.proofs.BranchLemmas.{routes-length}
use Rattle.ats_replay.proofs.Places.{route_ports}
use Rattle.ats_replay.proofs.reporting.write_title.Goals as goal

pub sender_route-route-requires-clause-leg : goal.sender_route-route-requires-clause-leg
sender_route-route-requires-clause-leg c =
    omega (
      arith,
      c.requires.leg,
      routes-length (sender_at c.args.network.now c.args.sender).ports
          (sender_at c.args.network.now c.args.sender).branches,
    )

pub station_of-station-requires-clause-ports : goal.station_of-station-requires-clause-ports
station_of-station-requires-clause-ports c =
    rw (c.as_slice.ensures.value, c.sender_route-route.ensures.value, c.topology.ensures.value)
    (route_ports c.args.network.now c.args.sender c.args.leg c.topology.ensures.rules c.requires.sender c.requires.leg)
