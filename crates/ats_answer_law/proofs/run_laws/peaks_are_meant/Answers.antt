use Rattle.ats_answer_law.proofs.RunMeaning.{peaks_are_meant}
use Rattle.ats_answer_law.proofs.run_laws.peaks_are_meant.Goals as goal

pub returns : goal.returns
returns c = peaks_are_meant
