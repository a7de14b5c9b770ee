use Rattle.ats_answer_law.proofs.Witnesses.{witnesses_are_meant}
use Rattle.ats_answer_law.proofs.run_laws.witnesses_are_meant.Goals as goal

pub returns : goal.returns
returns c = witnesses_are_meant
