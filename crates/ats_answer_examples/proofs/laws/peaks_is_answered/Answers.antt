use Rattle.ats_answer_examples.proofs.Peaks.{peaks_is_answered}
use Rattle.ats_answer_examples.proofs.laws.peaks_is_answered.Goals as goal

pub returns : goal.returns
returns c = peaks_is_answered
