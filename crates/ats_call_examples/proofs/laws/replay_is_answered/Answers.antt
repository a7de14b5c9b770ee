use Rattle.ats_call_examples.proofs.Replayed.{replay_is_answered}
use Rattle.ats_call_examples.proofs.laws.replay_is_answered.Goals as goal

pub returns : goal.returns
returns c = replay_is_answered
