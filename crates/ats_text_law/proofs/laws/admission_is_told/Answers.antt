use Rattle.ats_text_law.proofs.Answers.{admission_is_told}
use Rattle.ats_text_law.proofs.laws.admission_is_told.Goals as goal

pub returns : goal.returns
returns c = admission_is_told
