use Rattle.ats_lrq_law.proofs.Narrowed as proved
use Rattle.ats_lrq_law.proofs.laws.narrowed_is_network.Goals as goal

pub returns : goal.returns
returns c = proved.narrowed_is_network
