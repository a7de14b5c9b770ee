use Rattle.ats_answer_law.proofs.SameTexts.{same_texts_are_meant}
use Rattle.ats_answer_law.proofs.say_laws.same_texts_are_meant.Goals as goal

pub returns : goal.returns
returns c = same_texts_are_meant
