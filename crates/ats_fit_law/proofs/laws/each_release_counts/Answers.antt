use Rattle.ats_fit_law.proofs.Frames.{frames_are_releases}
use Rattle.ats_fit_law.proofs.laws.each_release_counts.Goals as goal

pub returns : goal.returns
returns c = frames_are_releases
