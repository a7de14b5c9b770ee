use Rattle.std.proofs.Common.{◌≡◌, List, length, ap, ◌∙◌, arith}
use Rattle.ats_network.specs.Network.{DeclaredNetwork}
use Rattle.ats_topology.specs.Topology.{DeclaredTopology}
use Rattle.ats_topology.specs.declared.port.Port.{Port}
use Rattle.ats_explain_text.specs.Text.{port_text}
use Rattle.ats_explain_text.proofs.Ports.{next_port, all_ports}
use Rattle.ats_explain_text.proofs.printing.write_ports.Goals as goal

pub loop-port-preserved : goal.loop-port-preserved
loop-port-preserved c =
    let same : c.ports.result.now ≡ c.args.explanation.now.topology.ports =
    c.ports.ensures.value ∙ ap (λ (t : DeclaredTopology). t.ports) c.topology.ensures.value
    ∙ ap (λ (n : DeclaredNetwork). n.topology.ports) c.network.ensures.value in
    let long : length c.ports.result.now ≡ length c.args.explanation.now.topology.ports =
    ap (λ (ports : List Port). length ports) same in
    next_port (port_text c.args.explanation.now) c.args.explanation.now.topology.ports c.loop-port.port
    c.args.out.now.items c.loop-port.out.items c.write_used.new.out.items (omega (arith, long)) c.loop-port.invariant
    c.in_ok-write_used.ensures

pub returns : goal.returns
returns c =
    let same : c.ports.result.now ≡ c.args.explanation.now.topology.ports =
    c.ports.ensures.value ∙ ap (λ (t : DeclaredTopology). t.ports) c.topology.ensures.value
    ∙ ap (λ (n : DeclaredNetwork). n.topology.ports) c.network.ensures.value in
    let long : length c.ports.result.now ≡ length c.args.explanation.now.topology.ports =
    ap (λ (ports : List Port). length ports) same in
    all_ports (port_text c.args.explanation.now) c.args.explanation.now.topology.ports c.loop-port.port
    c.args.out.now.items c.loop-port.out.items (omega (arith, long)) c.loop-port.invariant
