use Rattle.std.proofs.Common.{length, sym, ap, subst, ◌∙◌, arith}
use Rattle.ats_streams.specs.Flow.{IsFlow}
use Rattle.ats_network.specs.Path.{IsValidPath}
use Rattle.ats_network.specs.Network.{DeclaredNetwork, HasShortPath, network_within}
use Rattle.ats_network.proofs.NameLemmas.{none_second}
use Rattle.ats_network.proofs.Pushed.{pushed_flow, not_found}
use Rattle.ats_network.proofs.network.Network.push_flow.Goals as goal

pub push-requires-clause-absent : goal.push-requires-clause-absent
push-requires-clause-absent c =
    none_second c.args.flow.name
    (network_within c.self.inside.shape c.self.inside.most_ports c.self.inside.stream_table c.self.inside.flow_table)
    (not_found c.sender_named.result _ c.args.flow.name _ c.args.self.now c.self.view_is c.name.ensures
    c.sender_named.ensures.number (sym c.is_some.ensures ∙ c.if-is_some.false))

pub invariant_of-self-2 : goal.invariant_of-self-2
invariant_of-self-2 c =
    rw c.in_ok-push.ensures.ok
    (pushed_flow (network_within c.self.inside.shape c.self.inside.most_ports c.self.inside.stream_table
    c.self.inside.flow_table)
    c.args.flow c.self.invariant (subst IsFlow c.flow.view_is c.flow.invariant)
    (subst (λ (n : DeclaredNetwork). IsValidPath n.topology c.args.flow.path) (sym c.self.view_is) c.requires.valid)
    (subst (λ (n : DeclaredNetwork). HasShortPath n.most_ports c.args.flow) (sym c.self.view_is) c.requires.short)
    (not_found c.sender_named.result _ c.args.flow.name _ c.args.self.now c.self.view_is
    c.name.ensures c.sender_named.ensures.number (sym c.is_some.ensures ∙ c.if-is_some.false))
    (omega (
      arith,
      ap (λ (n : DeclaredNetwork). length n.flows) c.self.view_is,
      ap length c.flows.ensures.value,
      c.if-flows-ge-MAX_FLOWS.false,
    )))
