use Rattle.std.proofs.Common.{length, sym, ap, ◌∙◌, arith}
use Rattle.ats_topology.specs.Node.{names_of}
use Rattle.ats_topology.specs.Faults.{is_name_again, fault_at}
use Rattle.ats_topology.specs.declared.fault.TopologyFault.TheVariants.{NodeTwice}
use Rattle.ats_topology.proofs.FirstBelow.{first_below-some, first_below-none}
use Rattle.ats_topology.proofs.NameLemmas.{name_again, more_names}
use Rattle.ats_topology.proofs.checks.named.Goals as goal

pub returns-then-is_some-clause-fault : goal.returns-then-is_some-clause-fault
returns-then-is_some-clause-fault c =
    let again = name_again c.args.nodes.now c.loop-i.i c.index-nodes-i.result c.loop-i.names c.place.result
    (omega arith) c.index-nodes-i.is c.loop-i.invariant.names c.place.ensures.place in
    ap (fault_at NodeTwice)
    (first_below-some (is_name_again (names_of c.args.nodes.now)) c.loop-i.i (length c.args.nodes.now)
    c.loop-i.invariant.apart (again ∙ sym c.is_some.ensures ∙ c.if-is_some.true) (omega arith))

pub loop-i-preserved : goal.loop-i-preserved
loop-i-preserved c =
    let again = name_again c.args.nodes.now c.loop-i.i c.index-nodes-i.result c.loop-i.names c.place.result
    (omega arith) c.index-nodes-i.is c.loop-i.invariant.names c.place.ensures.place in
    record {
      names = c.in_ok-push.ensures.ok ∙ more_names c.args.nodes.now c.loop-i.i c.index-nodes-i.result c.loop-i.names
          (omega arith) c.index-nodes-i.is c.loop-i.invariant.names;
      apart = first_below-none (is_name_again (names_of c.args.nodes.now)) c.loop-i.i c.loop-i.invariant.apart
          (again ∙ sym c.is_some.ensures ∙ c.if-is_some.false);
    }
