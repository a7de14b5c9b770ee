use Rattle.ats_network_file_law.proofs.EndsMeant.{paths_are_meant}
use Rattle.ats_network_file_law.proofs.laws.paths_are_meant.Goals as goal

pub returns : goal.returns
returns c = paths_are_meant
