use Rattle.ats_crossing_examples.proofs.BesideProofs.{own_frames_are_among_others}
use Rattle.ats_crossing_examples.proofs.laws.own_frames_are_among_others.Goals as goal

pub returns : goal.returns
returns c = own_frames_are_among_others
