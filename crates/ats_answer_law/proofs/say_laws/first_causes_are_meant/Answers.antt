use Rattle.ats_answer_law.proofs.FirstCauses.{first_causes_are_meant}
use Rattle.ats_answer_law.proofs.say_laws.first_causes_are_meant.Goals as goal

pub returns : goal.returns
returns c = first_causes_are_meant
