use Rattle.ats_network.proofs.ClassLemmas.{class_is_by_hop}
use Rattle.ats_network.proofs.laws.class_is_by_hop.Goals as goal

pub returns : goal.returns
returns c = class_is_by_hop
