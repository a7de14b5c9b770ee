use Rattle.std.proofs.Common.{length, ap, ◌∙◌, arith}
use Rattle.ats_network.specs.Network.{DeclaredNetwork}
use Rattle.ats_network.specs.Class.{class_at}
use Rattle.ats_network.specs.Sender.{stream_sender}
use Rattle.ats_certificate.specs.PortSums.{is_used}
use Rattle.ats_tally.proofs.Places.{is_place}
use Rattle.ats_topology.specs.Topology.{DeclaredTopology}
use Rattle.ats_explain_text.proofs.printing.write_hop.Goals as goal

pub parts-parts-requires : goal.parts-parts-requires
parts-parts-requires c =
    ap (is_used c.args.explanation.now c.args.port) c.requires.class ∙ c.requires.used

pub write_line-requires : goal.write_line-requires
write_line-requires c =
    let within = (is_place c.args.explanation.now c.args.port (class_at (stream_sender c.args.stream.now) c.args.port)
    c.network.ensures.rules c.requires.used).within in
    let long = ap (λ (t : DeclaredTopology). length t.ports)
    (c.topology-topology.ensures.value ∙ ap (λ (n : DeclaredNetwork). n.topology) c.network.ensures.value) in
    omega (arith, within, long)
