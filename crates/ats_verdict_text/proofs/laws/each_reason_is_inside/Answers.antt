use Rattle.ats_verdict_text.proofs.ReasonPorts.{each_reason_is_inside}
use Rattle.ats_verdict_text.proofs.laws.each_reason_is_inside.Goals as goal

pub returns : goal.returns
returns c = each_reason_is_inside
