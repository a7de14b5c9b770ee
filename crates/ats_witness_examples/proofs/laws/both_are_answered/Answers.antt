use Rattle.ats_witness_examples.proofs.BothAnswered.{both_are_answered}
use Rattle.ats_witness_examples.proofs.laws.both_are_answered.Goals as goal

pub returns : goal.returns
returns c = both_are_answered
