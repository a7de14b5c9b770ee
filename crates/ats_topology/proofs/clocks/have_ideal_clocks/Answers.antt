use Rattle.std.proofs.Common.{◌≡◌, ℕ, List, get_or, refl, subst, sym, take, arith}
use Rattle.std.proofs.lemmas.List.{take_all, take_more}
use Rattle.std.proofs.lemmas.List.Elements.{All-push}
use Rattle.ats_clock.specs.Clock.{ideal}
use Rattle.ats_topology.specs.Node.{clock_of}
use Rattle.ats_topology.specs.Topology.{AreIdeal}
use Rattle.ats_topology.specs.declared.node.Node.{Node}
use Rattle.ats_topology.proofs.clocks.have_ideal_clocks.Goals as goal

pub loop-node-preserved : goal.loop-node-preserved
loop-node-preserved c =
    let nodes : List Node = c.args.nodes.now in
    let i : ℕ = c.loop-node.node-index in
    subst AreIdeal (sym (take_more nodes i c.node-item.result c.loop-node-test.true))
    (All-push (λ (node : Node). clock_of node.kind ≡ ideal) (take i nodes) (get_or nodes i c.node-item.result)
    c.loop-node.invariant
    (subst (λ (node : Node). clock_of node.kind ≡ ideal) c.node-item.is
    (c.has_ideal_clock.ensures.0 c.if-not-has_ideal_clock.false)))

pub returns : goal.returns
returns c = (
  λ _. subst AreIdeal (take_all c.loop-node.node-index c.args.nodes.now (omega (arith, c.loop-node-test.false)))
      c.loop-node.invariant,
  λ _. refl,
)
