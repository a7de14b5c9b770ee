use Rattle.ats_answer_law.proofs.RunMeaning.{runs_are_meant}
use Rattle.ats_answer_law.proofs.run_laws.runs_are_meant.Goals as goal

pub returns : goal.returns
returns c = runs_are_meant
