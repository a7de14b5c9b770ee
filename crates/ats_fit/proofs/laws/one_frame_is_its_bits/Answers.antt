use Rattle.ats_fit.proofs.Least.{one_frame}
use Rattle.ats_fit.proofs.laws.one_frame_is_its_bits.Goals as goal

pub returns : goal.returns
returns c = one_frame
