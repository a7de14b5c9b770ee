use Rattle.ats_group_law.proofs.OutputLaws.{output_ascends}
use Rattle.ats_group_law.proofs.laws.output_ascends.Goals as goal

pub returns : goal.returns
returns c = output_ascends
