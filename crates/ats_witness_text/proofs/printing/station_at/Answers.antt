use Rattle.ats_network.specs.Senders.{sender_at}
use Rattle.ats_witness.proofs.StreamLemmas.{is_listener, route_ports, stream_within}
use Rattle.ats_witness_text.proofs.printing.station_at.Goals as goal

pub station_of-requires-clause-ports : goal.station_of-requires-clause-ports
station_of-requires-clause-ports c =
    let network = c.args.network.now in
    rw (c.as_slice.ensures.value, c.sender_route-route.ensures.value, c.topology.ensures.value)
    (route_ports network c.args.stream c.args.listener c.sender_route-route.ensures.rules
    (stream_within network c.args.stream c.requires.stream)
    (is_listener (sender_at network c.args.stream) c.args.listener c.requires.listener))
