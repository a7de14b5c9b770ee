use Rattle.ats_answer_law.proofs.Dues.{peaks_are_due}
use Rattle.ats_answer_law.proofs.laws.peaks_are_due.Goals as goal

pub returns : goal.returns
returns c = peaks_are_due c.what_peaks_answer.ensures
