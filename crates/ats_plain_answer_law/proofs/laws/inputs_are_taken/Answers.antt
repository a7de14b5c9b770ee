use Rattle.ats_plain_answer_law.proofs.FileProofs.{inputs_are_taken}
use Rattle.ats_plain_answer_law.proofs.laws.inputs_are_taken.Goals as goal

pub returns : goal.returns
returns c = inputs_are_taken
