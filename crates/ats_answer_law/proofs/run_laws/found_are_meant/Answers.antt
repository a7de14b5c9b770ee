use Rattle.ats_answer_law.proofs.RunMeaning.{found_are_meant}
use Rattle.ats_answer_law.proofs.run_laws.found_are_meant.Goals as goal

pub returns : goal.returns
returns c = found_are_meant
