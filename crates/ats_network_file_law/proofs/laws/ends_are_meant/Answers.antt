use Rattle.ats_network_file_law.proofs.EndsMeant.{ends_are_meant}
use Rattle.ats_network_file_law.proofs.laws.ends_are_meant.Goals as goal

pub returns : goal.returns
returns c = ends_are_meant
