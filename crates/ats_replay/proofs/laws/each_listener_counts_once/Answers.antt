use Rattle.ats_replay.proofs.Once.{each_listener_counts_once}
use Rattle.ats_replay.proofs.laws.each_listener_counts_once.Goals as goal

pub returns : goal.returns
returns c = each_listener_counts_once
