use Rattle.ats_lrq_examples.proofs.MetProofs as example
use Rattle.ats_lrq_examples.proofs.laws.law_is_met.Goals as goal

pub returns : goal.returns
returns c = example.law_is_met
