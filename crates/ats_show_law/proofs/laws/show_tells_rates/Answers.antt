use Rattle.ats_show_law.proofs.Rates.{show_tells_rates}
use Rattle.ats_show_law.proofs.laws.show_tells_rates.Goals as goal

pub returns : goal.returns
returns c = show_tells_rates
