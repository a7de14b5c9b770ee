use Rattle.ats_answer_examples.proofs.RunsDueProofs.{runs_are_due}
use Rattle.ats_answer_examples.proofs.laws.runs_are_due.Goals as goal

pub returns : goal.returns
returns c = runs_are_due
