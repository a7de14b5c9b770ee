use Rattle.ats_listener_law.proofs.Once.{rates_are_seen_once}
use Rattle.ats_listener_law.proofs.laws.rates_are_seen_once.Goals as goal

pub returns : goal.returns
returns c = rates_are_seen_once
