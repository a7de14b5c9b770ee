use Rattle.ats_clock_law.proofs.Output.{true_output}
use Rattle.ats_clock_law.proofs.laws.true_output_conforms.Goals as goal

pub returns : goal.returns
returns c = true_output
