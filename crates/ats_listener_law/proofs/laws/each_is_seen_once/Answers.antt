use Rattle.ats_listener_law.proofs.Once.{each_is_seen_once}
use Rattle.ats_listener_law.proofs.laws.each_is_seen_once.Goals as goal

pub returns : goal.returns
returns c = each_is_seen_once
