use Rattle.ats_call_examples.proofs.Captures.{capture_is_answered}
use Rattle.ats_call_examples.proofs.laws.capture_is_answered.Goals as goal

pub returns : goal.returns
returns c = capture_is_answered
