use Rattle.ats_plain_answer_law.proofs.NamedProofs.{names_are_answered}
use Rattle.ats_plain_answer_law.proofs.laws.names_are_answered.Goals as goal

pub returns : goal.returns
returns c = names_are_answered
