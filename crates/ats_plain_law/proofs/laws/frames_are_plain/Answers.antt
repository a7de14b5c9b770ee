use Rattle.ats_plain_law.proofs.FrameProofs.{frames_are_plain}
use Rattle.ats_plain_law.proofs.laws.frames_are_plain.Goals as goal

pub returns : goal.returns
returns c = frames_are_plain
