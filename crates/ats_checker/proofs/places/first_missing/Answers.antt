use Rattle.std.proofs.Common.{◌≡◌, List, length, ap, sym, ◌∙◌, arith}
use Rattle.ats_topology.specs.declared.port.Port.{Port}
use Rattle.ats_network.specs.Network.{DeclaredNetwork}
use Rattle.ats_checker.proofs.PlaceOrder.{port_step, port_found}
use Rattle.ats_checker.proofs.places.first_missing.Goals as goal

pub returns-in-Some : goal.returns-in-Some
returns-in-Some c =
    let long : length c.ports.result.now ≡ length c.args.tallies.now.topology.ports =
    ap (λ (ports : List Port). length ports) (c.ports.ensures.value ∙ ap (λ t. t.ports) c.topology.ensures.value)
    ∙ ap (λ (n : DeclaredNetwork). length n.topology.ports) c.network.ensures.value in
    sym (c.loop-port.invariant
    ∙ port_found c.args.tallies.now c.args.bounds.now.rows c.loop-port.port c.in-Some.refusal (omega (arith, long))
    (sym c.missing_of.ensures ∙ c.in-Some.is))

pub loop-port-preserved : goal.loop-port-preserved
loop-port-preserved c =
    let long : length c.ports.result.now ≡ length c.args.tallies.now.topology.ports =
    ap (λ (ports : List Port). length ports) (c.ports.ensures.value ∙ ap (λ t. t.ports) c.topology.ensures.value)
    ∙ ap (λ (n : DeclaredNetwork). length n.topology.ports) c.network.ensures.value in
    c.loop-port.invariant
    ∙ port_step c.args.tallies.now c.args.bounds.now.rows c.loop-port.port (omega (arith, long))
    (sym c.missing_of.ensures ∙ c.in_default.is)
