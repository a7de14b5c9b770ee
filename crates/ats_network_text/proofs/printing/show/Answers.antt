use Rattle.ats_network_text.proofs.PortsOf.{ports_of_flows}
use Rattle.ats_network_text.proofs.printing.show.Goals as goal

pub write_flows-requires : goal.write_flows-requires
write_flows-requires c = rw (c.flows-flows.ensures.value, c.topology-topology.ensures.value)
    (ports_of_flows c.args.network.now c.topology-topology.ensures.rules)
