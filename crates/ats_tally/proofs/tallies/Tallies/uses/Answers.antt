use Rattle.std.proofs.Common.{◌≡◌, ◌≤◌, length, sym, ap, subst, ◌∙◌, arith, List}
use Rattle.ats_topology.specs.declared.port.Port.{Port}
use Rattle.ats_network.specs.Network.{DeclaredNetwork, IsNetwork}
use Rattle.ats_tally.proofs.Counted.{not_used, used_is}
use Rattle.ats_tally.proofs.tallies.Tallies.uses.Goals as goal

pub returns-then-port-ports : goal.returns-then-port-ports
returns-then-port-ports c =
    let same : c.self.inside.network.now ≡ c.args.self.now = c.self.view_is in
    let ports : length c.ports.result.now ≡ length c.args.self.now.topology.ports =
    ap (λ (ports : List Port). length ports) (c.ports.ensures.value ∙ ap (λ t. t.ports) c.topology.ensures.value)
    ∙ ap (λ (n : DeclaredNetwork). length n.topology.ports) same in
    let outside : length c.args.self.now.topology.ports ≤ c.args.port = omega (arith, ports) in
    sym (not_used c.args.self.now c.args.port c.args.class (subst IsNetwork same c.self.invariant.rules) outside)

pub returns : goal.returns
returns c = c.is_some.ensures
    ∙ used_is c.args.self.now c.args.port c.args.class c.tally.result c.requires.class_least c.tally.ensures
