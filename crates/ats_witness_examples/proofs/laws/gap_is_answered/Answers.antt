use Rattle.ats_witness_examples.proofs.GapAnswered.{gap_is_answered}
use Rattle.ats_witness_examples.proofs.laws.gap_is_answered.Goals as goal

pub returns : goal.returns
returns c = gap_is_answered
