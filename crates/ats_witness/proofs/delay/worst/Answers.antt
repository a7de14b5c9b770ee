use Rattle.ats_witness.proofs.LongestLemmas.{longest_greatest, longest_none}
use Rattle.ats_witness.proofs.delay.worst.Goals as goal

pub returns-clause-greatest : goal.returns-clause-greatest
returns-clause-greatest c =
    longest_greatest c.args.run.now c.args.sender c.args.listener c.longest_of.result c.longest_of.ensures

pub returns-clause-none : goal.returns-clause-none
returns-clause-none c =
    longest_none c.args.run.now c.args.sender c.args.listener c.longest_of.result c.longest_of.ensures
