use Rattle.ats_answer_examples.proofs.KeepingShown.{keeping_is_meant}
use Rattle.ats_answer_examples.proofs.laws.keeping_is_meant.Goals as goal

pub returns : goal.returns
returns c = keeping_is_meant
