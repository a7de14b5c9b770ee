use Rattle.ats_group_law.proofs.OutputLaws.{output_conforms}
use Rattle.ats_group_law.proofs.laws.output_conforms.Goals as goal

pub returns : goal.returns
returns c = output_conforms
