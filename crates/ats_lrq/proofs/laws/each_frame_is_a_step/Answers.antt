use Rattle.ats_lrq.proofs.StepLemmas.{each_frame}
use Rattle.ats_lrq.proofs.laws.each_frame_is_a_step.Goals as goal

pub returns : goal.returns
returns c = each_frame
