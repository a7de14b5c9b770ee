use Rattle.ats_answer_law.proofs.Refused.{none_are_made_for_faults}
use Rattle.ats_answer_law.proofs.laws.none_are_made_for_faults.Goals as goal

pub returns : goal.returns
returns c = none_are_made_for_faults
