use Rattle.ats_answer_examples.proofs.TextsShown.{texts_are_shown}
use Rattle.ats_answer_examples.proofs.laws.texts_are_shown.Goals as goal

pub returns : goal.returns
returns c = texts_are_shown
