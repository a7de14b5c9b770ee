use Rattle.ats_network.proofs.TreeLemmas.{one_listener_is_a_path}
use Rattle.ats_network.proofs.laws.one_listener_is_a_path.Goals as goal

pub returns : goal.returns
returns c = one_listener_is_a_path
