use Rattle.ats_meeting_examples.proofs.BurstProofs.{each_flow_is_in_the_burst}
use Rattle.ats_meeting_examples.proofs.laws.each_flow_is_in_the_burst.Goals as goal

pub returns : goal.returns
returns c = each_flow_is_in_the_burst
