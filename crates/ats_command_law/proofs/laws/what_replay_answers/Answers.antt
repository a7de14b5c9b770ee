use Rattle.ats_command_law.proofs.ReplayMeanings.{replay_means}
use Rattle.ats_command_law.proofs.laws.what_replay_answers.Goals as goal

pub returns : goal.returns
returns c = replay_means
