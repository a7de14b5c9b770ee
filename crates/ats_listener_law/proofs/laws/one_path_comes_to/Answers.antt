use Rattle.ats_listener_law.proofs.Alone.{one_path_comes_to}
use Rattle.ats_listener_law.proofs.laws.one_path_comes_to.Goals as goal

pub returns : goal.returns
returns c = one_path_comes_to
