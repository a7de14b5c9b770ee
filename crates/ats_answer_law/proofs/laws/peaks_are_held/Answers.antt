use Rattle.ats_answer_law.proofs.Ordered.{peaks_are_held}
use Rattle.ats_answer_law.proofs.laws.peaks_are_held.Goals as goal

pub returns : goal.returns
returns c = peaks_are_held
