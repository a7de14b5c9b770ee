use Rattle.std.proofs.Common.{◌≡◌, ℕ, ◌<◌, List, length, ap, ◌∙◌, arith}
use Rattle.ats_topology.specs.Port.{port_at}
use Rattle.ats_topology.specs.Topology.{DeclaredTopology}
use Rattle.ats_topology.specs.declared.port.Port.{Port}
use Rattle.ats_network.specs.Network.{DeclaredNetwork}
use Rattle.ats_transmit.specs.State.{opened}
use Rattle.ats_engine.specs.Rooms.{rooms_at}
use Rattle.ats_engine.proofs.Starting.{opened-more}
use Rattle.ats_engine.proofs.opening.ports_of.Goals as goal

pub loop-port-preserved : goal.loop-port-preserved
loop-port-preserved g c =
    let network : DeclaredNetwork = c.args.net.now in
    let port : ℕ = c.loop-port.port in
    let counts : List ℕ = c.in_ok-counts.counts.items in
    let listed : c.ports-links.result.now ≡ network.topology.ports = c.ports-links.ensures.value
    ∙ ap (λ (t : DeclaredTopology). t.ports) c.topology.ensures.value in
    let seen : c.rooms_at-rooms.result ≡ rooms_at counts port = c.rooms_at-rooms.ensures
    ∙ ap (λ (l : List ℕ). rooms_at l port) c.deref.ensures.value in
    let within : port < length network.topology.ports =
    omega (arith, c.loop-port-test.true, ap (λ (l : List Port). length l) listed) in
    opened-more network c.args.releases.now c.args.tie port counts c.loop-port.ports.items c.push.new.self.items
    c.in_ok-open.field-0 within c.in_ok-counts.ensures c.loop-port.invariant
    (c.in_ok-open.ensures.value
    ∙ ap (λ (l : List Port). opened (port_at l port).ps_per_bit c.rooms_at-rooms.result c.args.tie) listed
    ∙ ap (λ (l : List ℕ). opened (port_at network.topology.ports port).ps_per_bit l c.args.tie) seen)
    c.in_ok-push.ensures.items
