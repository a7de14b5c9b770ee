use Rattle.ats_call_examples.proofs.Recorded.{record_is_answered}
use Rattle.ats_call_examples.proofs.laws.record_is_answered.Goals as goal

pub returns : goal.returns
returns c = record_is_answered
