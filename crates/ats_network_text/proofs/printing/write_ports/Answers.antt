use Rattle.std.proofs.Common.{List, length, ap, arith}
use Rattle.ats_topology.specs.declared.port.Port.{Port}
use Rattle.ats_network_text.proofs.PortsOf.{next_port, all_ports}
use Rattle.ats_network_text.proofs.printing.write_ports.Goals as goal

pub loop-port-preserved : goal.loop-port-preserved
loop-port-preserved c = next_port c.args.topology.now c.loop-port.port c.args.out.now.items c.loop-port.out.items
    c.write_port_line.new.out.items (omega (arith, ap (λ (ports : List Port). length ports) c.ports.ensures.value))
    c.loop-port.invariant c.in_ok-write_port_line.ensures

pub returns : goal.returns
returns c = all_ports c.args.topology.now c.loop-port.port c.args.out.now.items c.loop-port.out.items
    (omega (arith, ap (λ (ports : List Port). length ports) c.ports.ensures.value)) c.loop-port.invariant
