use Rattle.ats_fit.proofs.Least.{no_frames}
use Rattle.ats_fit.proofs.laws.no_frames_need_none.Goals as goal

pub returns : goal.returns
returns c = no_frames
