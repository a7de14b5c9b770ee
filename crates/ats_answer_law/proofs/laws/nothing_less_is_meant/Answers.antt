use Rattle.ats_answer_law.proofs.Meant.{nothing_less_is_meant}
use Rattle.ats_answer_law.proofs.laws.nothing_less_is_meant.Goals as goal

pub returns : goal.returns
returns c = nothing_less_is_meant
