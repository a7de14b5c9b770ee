use Rattle.ats_own_examples.proofs.HeldProofs.{own_frames_are_held}
use Rattle.ats_own_examples.proofs.laws.own_frames_are_held.Goals as goal

pub returns : goal.returns
returns c = own_frames_are_held
