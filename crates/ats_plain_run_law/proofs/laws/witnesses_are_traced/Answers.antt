use Rattle.ats_plain_run_law.proofs.WitnessProofs.{witnesses_are_traced}
use Rattle.ats_plain_run_law.proofs.laws.witnesses_are_traced.Goals as goal

pub returns : goal.returns
returns c = witnesses_are_traced
