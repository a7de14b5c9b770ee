use Rattle.ats_group.proofs.StepLemmas.{the_rest}
use Rattle.ats_group.proofs.laws.each_frame_keeps_the_rest.Goals as goal

pub returns : goal.returns
returns c = the_rest
