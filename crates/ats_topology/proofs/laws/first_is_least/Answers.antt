use Rattle.ats_topology.proofs.LawLemmas.{first_least}
use Rattle.ats_topology.proofs.laws.first_is_least.Goals as goal

pub returns : goal.returns
returns c = first_least
