use Rattle.ats_trace.proofs.OneVerdict.{one_verdict}
use Rattle.ats_trace.proofs.laws.one_verdict.Goals as goal

pub returns : goal.returns
returns c = one_verdict
