use Rattle.ats_lrq_examples.proofs.GroupProofs as example
use Rattle.ats_lrq_examples.proofs.laws.groups_are_met.Goals as goal

pub returns : goal.returns
returns c = example.groups_are_met
