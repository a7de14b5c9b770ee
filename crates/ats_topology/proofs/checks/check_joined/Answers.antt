use Rattle.std.proofs.Common.{length, sym, ap, ◌∙◌, arith}
use Rattle.ats_topology.specs.Faults.{is_link_again, fault_at}
use Rattle.ats_topology.specs.declared.fault.TopologyFault.TheVariants.{LinkTwice}
use Rattle.ats_topology.proofs.FirstBelow.{first_below-some, first_below-none}
use Rattle.ats_topology.proofs.LinkLemmas.{link_again, joined_more}
use Rattle.ats_topology.proofs.checks.check_joined.Goals as goal

pub returns-then-contains-clause-fault : goal.returns-then-contains-clause-fault
returns-then-contains-clause-fault c =
    let again = link_again c.args.links.now c.loop-i.i c.index-links-i.result c.loop-i.joined (omega arith)
    c.index-links-i.is c.loop-i.invariant.joined in
    ap (fault_at LinkTwice) (first_below-some (is_link_again c.args.links.now) c.loop-i.i (length c.args.links.now)
    c.loop-i.invariant.apart (again ∙ sym c.contains.ensures ∙ c.if-contains.true) (omega arith))

pub loop-i-preserved : goal.loop-i-preserved
loop-i-preserved c =
    let again = link_again c.args.links.now c.loop-i.i c.index-links-i.result c.loop-i.joined (omega arith)
    c.index-links-i.is c.loop-i.invariant.joined in
    record {
      joined = joined_more c.args.links.now c.loop-i.i c.index-links-i.result
          c.loop-i.joined c.insert.new.self c.insert-in-loop-i.new.self (omega arith)
          c.index-links-i.is c.loop-i.invariant.joined c.in_ok-insert.ensures.updates c.in_ok-insert-2.ensures.updates;
      apart = first_below-none (is_link_again c.args.links.now) c.loop-i.i c.loop-i.invariant.apart
          (again ∙ sym c.contains.ensures ∙ c.if-contains.false);
    }
