use Rattle.ats_network.proofs.RouteLemmas.{shortest_least}
use Rattle.ats_network.proofs.laws.shortest_is_least.Goals as goal

pub returns : goal.returns
returns c = shortest_least
