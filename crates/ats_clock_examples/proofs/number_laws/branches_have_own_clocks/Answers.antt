use Rattle.ats_clock_examples.proofs.TreeProofs.{branches_have_own_clocks}
use Rattle.ats_clock_examples.proofs.number_laws.branches_have_own_clocks.Goals as goal

pub returns : goal.returns
returns c = branches_have_own_clocks
