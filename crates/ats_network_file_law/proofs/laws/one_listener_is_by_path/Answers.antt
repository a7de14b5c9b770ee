use Rattle.ats_network_file_law.proofs.ByPath.{one_listener_is_by_path}
use Rattle.ats_network_file_law.proofs.laws.one_listener_is_by_path.Goals as goal

pub returns : goal.returns
returns c = one_listener_is_by_path
