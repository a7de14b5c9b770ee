use Rattle.ats_one_listener_law.proofs.Texts.{check_tells_one_sum}
use Rattle.ats_one_listener_law.proofs.laws.check_tells_one_sum.Goals as goal

pub returns : goal.returns
returns c = check_tells_one_sum
