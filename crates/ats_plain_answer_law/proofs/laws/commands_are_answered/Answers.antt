use Rattle.ats_plain_answer_law.proofs.CommandProofs.{commands_are_answered}
use Rattle.ats_plain_answer_law.proofs.laws.commands_are_answered.Goals as goal

pub returns : goal.returns
returns c = commands_are_answered
