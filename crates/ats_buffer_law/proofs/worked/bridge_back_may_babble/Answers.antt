use Rattle.ats_buffer_law.proofs.OwnFrameProofs.{bridge_back_may_babble}
use Rattle.ats_buffer_law.proofs.worked.bridge_back_may_babble.Goals as goal

pub returns : goal.returns
returns c = bridge_back_may_babble
