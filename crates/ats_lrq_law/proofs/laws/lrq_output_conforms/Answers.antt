use Rattle.ats_lrq_law.proofs.Output as proved
use Rattle.ats_lrq_law.proofs.laws.lrq_output_conforms.Goals as goal

pub returns : goal.returns
returns c = proved.output_conforms
