use Rattle.ats_listener_law.proofs.Once.{first_sum_is_the_trunks}
use Rattle.ats_listener_law.proofs.laws.first_sum_is_the_trunks.Goals as goal

pub returns : goal.returns
returns c = first_sum_is_the_trunks
