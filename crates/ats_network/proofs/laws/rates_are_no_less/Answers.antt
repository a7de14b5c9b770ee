use Rattle.ats_network.proofs.RateLemmas.{rates_are_no_less}
use Rattle.ats_network.proofs.laws.rates_are_no_less.Goals as goal

pub returns : goal.returns
returns c = rates_are_no_less
