use Rattle.ats_group_law.proofs.WindowPlaces.{by_windows}
use Rattle.ats_group_law.proofs.laws.conforms_by_windows.Goals as goal

pub returns : goal.returns
returns c = by_windows
