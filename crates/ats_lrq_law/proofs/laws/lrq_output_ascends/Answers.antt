use Rattle.ats_lrq_law.proofs.Ascending as proved
use Rattle.ats_lrq_law.proofs.laws.lrq_output_ascends.Goals as goal

pub returns : goal.returns
returns c = proved.output_ascends
