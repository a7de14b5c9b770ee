use Rattle.ats_answer_law.proofs.JustOne.{just_one_is_left}
use Rattle.ats_answer_law.proofs.laws.just_one_is_left.Goals as goal

pub returns : goal.returns
returns c = just_one_is_left
