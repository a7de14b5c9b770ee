use Rattle.ats_group_law.proofs.OutputLaws.{output_by_windows}
use Rattle.ats_group_law.proofs.laws.output_conforms_by_windows.Goals as goal

pub returns : goal.returns
returns c = output_by_windows
