use Rattle.ats_answer_examples.proofs.PremisesShown.{premises_are_shown}
use Rattle.ats_answer_examples.proofs.laws.premises_are_shown.Goals as goal

pub returns : goal.returns
returns c = premises_are_shown
