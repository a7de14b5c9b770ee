use Rattle.ats_admission_law.proofs.Networks.{less_is_network}
use Rattle.ats_admission_law.proofs.laws.less_is_network.Goals as goal

pub returns : goal.returns
returns c = less_is_network
