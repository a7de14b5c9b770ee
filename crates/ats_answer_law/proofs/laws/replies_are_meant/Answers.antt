use Rattle.ats_answer_law.proofs.Replied.{replies_are_meant}
use Rattle.ats_answer_law.proofs.laws.replies_are_meant.Goals as goal

pub returns : goal.returns
returns c = replies_are_meant
