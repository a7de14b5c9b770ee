use Rattle.ats_answer_examples.proofs.RepliesShown.{replies_are_shown}
use Rattle.ats_answer_examples.proofs.laws.replies_are_shown.Goals as goal

pub returns : goal.returns
returns c = replies_are_shown
