use Rattle.ats_answer_law.proofs.RunMeaning.{made_are_meant}
use Rattle.ats_answer_law.proofs.run_laws.made_are_meant.Goals as goal

pub returns : goal.returns
returns c = made_are_meant
