use Rattle.ats_command_law.proofs.ReplayMeanings.{replay_keeps_bounds}
use Rattle.ats_command_law.proofs.laws.replay_keeps_bounds.Goals as goal

pub returns : goal.returns
returns c = replay_keeps_bounds
