use Rattle.ats_witness_text.proofs.Hops.{next_hop}
use Rattle.ats_witness_text.proofs.printing.write_hops.Goals as goal

pub loop-hop-preserved : goal.loop-hop-preserved
loop-hop-preserved c = next_hop c.args.topology.now c.args.route.now c.args.delays.now c.loop-hop.hop
    c.args.out.now.items c.loop-hop.out.items c.write_hop.new.out.items c.loop-hop-test.true c.requires.fit
    c.loop-hop.invariant c.in_ok-write_hop.ensures
