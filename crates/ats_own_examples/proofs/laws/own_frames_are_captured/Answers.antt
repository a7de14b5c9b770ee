use Rattle.ats_own_examples.proofs.CapturedProofs.{own_frames_are_captured}
use Rattle.ats_own_examples.proofs.laws.own_frames_are_captured.Goals as goal

pub returns : goal.returns
returns c = own_frames_are_captured
