use Rattle.ats_crossing_examples.proofs.SizeProofs.{own_frames_have_any_size}
use Rattle.ats_crossing_examples.proofs.laws.own_frames_have_any_size.Goals as goal

pub returns : goal.returns
returns c = own_frames_have_any_size
