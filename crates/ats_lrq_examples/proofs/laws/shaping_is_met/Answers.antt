use Rattle.ats_lrq_examples.proofs.GroupProofs as example
use Rattle.ats_lrq_examples.proofs.laws.shaping_is_met.Goals as goal

pub returns : goal.returns
returns c = example.shaping_is_met
