use Rattle.std.proofs.Common.{◌≡◌, [], ◌∷◌, ◌++◌, length, take, refl, ap, ◌∙◌, arith, length-append, length-take-le}
use Rattle.ats_topology.specs.Node.{names_of}
use Rattle.ats_topology.specs.Port.{port_between}
use Rattle.ats_topology.specs.PortTable.{NodePorts, node_ports}
use Rattle.ats_topology.specs.Topology.{port_of, ports_of, node_number}
use Rattle.ats_topology.specs.declared.port.Port.{Port}
use Rattle.ats_topology.proofs.Known.{apart, all_open, table_open, is_there}
use Rattle.ats_topology.proofs.Numbered.{node_number_within, has_rate, length-ports_of, more_ports, first_absent}
use Rattle.ats_topology.proofs.Numbered.{second_absent}
use Rattle.ats_topology.proofs.Rules.{no_fault, topology_rules}
use Rattle.ats_topology.proofs.numbering.ports_of.Goals as goal

pub port_of-requires-clause-from : goal.port_of-requires-clause-from
port_of-requires-clause-from c =
    let sound = no_fault c.args.nodes.now c.args.links.now c.requires.sound in
    let o = table_open c.args.names.now c.args.nodes.now c.args.links.now c.requires.names sound.known
    sound.differ c.loop-link.link-index c.link-item.result c.loop-link-test.true c.link-item.is in
    is_there _ _ o.a refl o.a_at

pub port_of-requires-clause-to : goal.port_of-requires-clause-to
port_of-requires-clause-to c =
    let sound = no_fault c.args.nodes.now c.args.links.now c.requires.sound in
    let o = table_open c.args.names.now c.args.nodes.now c.args.links.now c.requires.names sound.known
    sound.differ c.loop-link.link-index c.link-item.result c.loop-link-test.true c.link-item.is in
    is_there _ _ o.b refl o.b_at

pub port_of-requires-clause-rate : goal.port_of-requires-clause-rate
port_of-requires-clause-rate c =
    let sound = no_fault c.args.nodes.now c.args.links.now c.requires.sound in
    has_rate c.args.links.now sound.rated c.loop-link.link-index c.link-item.result
    c.loop-link-test.true c.link-item.is

pub push-requires-clause-from : goal.push-requires-clause-from
push-requires-clause-from c =
    let sound = no_fault c.args.nodes.now c.args.links.now c.requires.sound in
    let o = table_open (names_of c.args.nodes.now) c.args.nodes.now c.args.links.now refl sound.known
    sound.differ c.loop-link.link-index c.link-item.result c.loop-link-test.true c.link-item.is in
    let count : c.loop-link.table.nodes ≡ length c.args.nodes.now =
    ap (λ (v : NodePorts). v.nodes) c.loop-link.invariant in
    let from : c.port_of.result.from ≡ node_number c.args.nodes.now c.link-item.result.a =
    ap (λ (p : Port). p.from) c.port_of.ensures in
    omega (arith, count, from, node_number_within c.args.nodes.now c.link-item.result.a o.a o.a_at)

pub push-requires-clause-absent : goal.push-requires-clause-absent
push-requires-clause-absent c =
    let sound = no_fault c.args.nodes.now c.args.links.now c.requires.sound in
    let o = table_open (names_of c.args.nodes.now) c.args.nodes.now c.args.links.now refl sound.known
    sound.differ c.loop-link.link-index c.link-item.result c.loop-link-test.true c.link-item.is in
    ap (λ (p : Port). port_between p.from p.to c.loop-link.table.ports) c.port_of.ensures
    ∙ ap (λ (v : NodePorts). port_between (node_number c.args.nodes.now c.link-item.result.a)
    (node_number c.args.nodes.now c.link-item.result.b) v.ports) c.loop-link.invariant
    ∙ first_absent c.args.nodes.now (apart c.args.nodes.now sound.apart) c.args.links.now
    (all_open c.args.nodes.now c.args.links.now sound.known sound.differ) sound.joined
    c.loop-link.link-index c.link-item.result c.loop-link-test.true c.link-item.is o

pub push-requires-clause-room : goal.push-requires-clause-room
push-requires-clause-room c =
    let long = ap (λ (v : NodePorts). length v.ports) c.loop-link.invariant
    ∙ length-ports_of c.args.nodes.now (take c.loop-link.link-index c.args.links.now) in
    omega (
      arith,
      long,
      length-take-le c.loop-link.link-index c.args.links.now (omega arith),
      (topology_rules c.args.nodes.now c.args.links.now c.requires.sound).few_links,
    )

pub port_of-requires-in-loop-link-clause-from : goal.port_of-requires-in-loop-link-clause-from
port_of-requires-in-loop-link-clause-from c =
    let sound = no_fault c.args.nodes.now c.args.links.now c.requires.sound in
    let o = table_open c.args.names.now c.args.nodes.now c.args.links.now c.requires.names sound.known
    sound.differ c.loop-link.link-index c.link-item.result c.loop-link-test.true c.link-item.is in
    is_there _ _ o.b refl o.b_at

pub port_of-requires-in-loop-link-clause-to : goal.port_of-requires-in-loop-link-clause-to
port_of-requires-in-loop-link-clause-to c =
    let sound = no_fault c.args.nodes.now c.args.links.now c.requires.sound in
    let o = table_open c.args.names.now c.args.nodes.now c.args.links.now c.requires.names sound.known
    sound.differ c.loop-link.link-index c.link-item.result c.loop-link-test.true c.link-item.is in
    is_there _ _ o.a refl o.a_at

pub port_of-requires-in-loop-link-clause-rate : goal.port_of-requires-in-loop-link-clause-rate
port_of-requires-in-loop-link-clause-rate c =
    let sound = no_fault c.args.nodes.now c.args.links.now c.requires.sound in
    has_rate c.args.links.now sound.rated c.loop-link.link-index
    c.link-item.result c.loop-link-test.true c.link-item.is

pub push-requires-in-loop-link-clause-from : goal.push-requires-in-loop-link-clause-from
push-requires-in-loop-link-clause-from c =
    let sound = no_fault c.args.nodes.now c.args.links.now c.requires.sound in
    let o = table_open (names_of c.args.nodes.now) c.args.nodes.now c.args.links.now refl sound.known
    sound.differ c.loop-link.link-index c.link-item.result c.loop-link-test.true c.link-item.is in
    let count = ap (λ (v : NodePorts). v.nodes) (c.in_ok-push.ensures.ok)
    ∙ ap (λ (v : NodePorts). v.nodes) c.loop-link.invariant in
    let from : c.port_of-in-loop-link.result.from ≡ node_number c.args.nodes.now c.link-item.result.b =
    ap (λ (p : Port). p.from) c.port_of-in-loop-link.ensures in
    omega (arith, count, from, node_number_within c.args.nodes.now c.link-item.result.b o.b o.b_at)

pub push-requires-in-loop-link-clause-absent : goal.push-requires-in-loop-link-clause-absent
push-requires-in-loop-link-clause-absent c =
    let sound = no_fault c.args.nodes.now c.args.links.now c.requires.sound in
    let o = table_open (names_of c.args.nodes.now) c.args.nodes.now c.args.links.now refl sound.known
    sound.differ c.loop-link.link-index c.link-item.result c.loop-link-test.true c.link-item.is in
    let b = node_number c.args.nodes.now c.link-item.result.b in
    let a = node_number c.args.nodes.now c.link-item.result.a in
    ap (λ (p : Port). port_between p.from p.to c.push.new.self.ports) c.port_of-in-loop-link.ensures
    ∙ ap (λ (v : NodePorts). port_between b a v.ports) c.in_ok-push.ensures.ok
    ∙ ap (λ (v : NodePorts). port_between b a (v.ports ++ c.port_of.result ∷ [])) c.loop-link.invariant
    ∙ ap (λ (p : Port). port_between b a
    (ports_of c.args.nodes.now (take c.loop-link.link-index c.args.links.now) ++ p ∷ [])) c.port_of.ensures
    ∙ second_absent c.args.nodes.now (apart c.args.nodes.now sound.apart) c.args.links.now
    (all_open c.args.nodes.now c.args.links.now sound.known sound.differ) sound.joined
    c.loop-link.link-index c.link-item.result c.loop-link-test.true c.link-item.is o

pub push-requires-in-loop-link-clause-room : goal.push-requires-in-loop-link-clause-room
push-requires-in-loop-link-clause-room c =
    let more = ap (λ (v : NodePorts). length v.ports) c.in_ok-push.ensures.ok
    ∙ length-append c.loop-link.table.ports (c.port_of.result ∷ []) in
    let long = ap (λ (v : NodePorts). length v.ports) c.loop-link.invariant
    ∙ length-ports_of c.args.nodes.now (take c.loop-link.link-index c.args.links.now) in
    omega (
      arith,
      more,
      long,
      length-take-le c.loop-link.link-index c.args.links.now (omega arith),
      (topology_rules c.args.nodes.now c.args.links.now c.requires.sound).few_links,
    )

pub loop-link-preserved : goal.loop-link-preserved
loop-link-preserved c =
    let link = c.link-item.result in
    let nodes = c.args.nodes.now in
    let before = ports_of nodes (take c.loop-link.link-index c.args.links.now) in
    c.in_ok-push-2.ensures.ok
    ∙ ap (λ (v : NodePorts). node_ports v.nodes (v.ports ++ c.port_of-in-loop-link.result ∷ [])) c.in_ok-push.ensures.ok
    ∙ ap (λ (v : NodePorts). node_ports v.nodes
    ((v.ports ++ c.port_of.result ∷ []) ++ c.port_of-in-loop-link.result ∷ [])) c.loop-link.invariant
    ∙ ap (λ (p : Port). node_ports (length nodes) ((before ++ p ∷ []) ++ c.port_of-in-loop-link.result ∷ []))
    c.port_of.ensures
    ∙ ap (λ (p : Port). node_ports (length nodes) ((before ++ port_of nodes link link.a link.b ∷ []) ++ p ∷ []))
    c.port_of-in-loop-link.ensures
    ∙ ap (node_ports (length nodes))
    (more_ports nodes c.args.links.now c.loop-link.link-index link c.loop-link-test.true c.link-item.is)
