use Rattle.ats_lrq.proofs.StepLemmas.{the_rest}
use Rattle.ats_lrq.proofs.laws.each_frame_keeps_the_rest.Goals as goal

pub returns : goal.returns
returns c = the_rest
