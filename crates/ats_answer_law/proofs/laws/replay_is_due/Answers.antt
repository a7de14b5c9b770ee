use Rattle.ats_answer_law.proofs.Dues.{replay_is_due}
use Rattle.ats_answer_law.proofs.laws.replay_is_due.Goals as goal

pub returns : goal.returns
returns c = replay_is_due c.what_replay_answers.ensures
