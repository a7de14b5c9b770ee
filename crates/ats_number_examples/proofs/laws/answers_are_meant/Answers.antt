use Rattle.ats_number_examples.proofs.AnswersMeant.{answers_are_meant}
use Rattle.ats_number_examples.proofs.laws.answers_are_meant.Goals as goal

pub returns : goal.returns
returns c = answers_are_meant
