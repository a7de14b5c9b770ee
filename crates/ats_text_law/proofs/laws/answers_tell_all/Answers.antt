use Rattle.ats_text_law.proofs.Answers.{answers_tell_all}
use Rattle.ats_text_law.proofs.laws.answers_tell_all.Goals as goal

pub returns : goal.returns
returns c = answers_tell_all
