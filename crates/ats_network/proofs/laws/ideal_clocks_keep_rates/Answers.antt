use Rattle.ats_network.proofs.RateLemmas.{ideal_clocks_keep_rates}
use Rattle.ats_network.proofs.laws.ideal_clocks_keep_rates.Goals as goal

pub returns : goal.returns
returns c = ideal_clocks_keep_rates
