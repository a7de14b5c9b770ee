use Rattle.ats_plain_text_law.proofs.ReplayProofs.{replay_is_written}
use Rattle.ats_plain_text_law.proofs.laws.replay_is_written.Goals as goal

pub returns : goal.returns
returns c = replay_is_written
