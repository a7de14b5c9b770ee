use Rattle.ats_meaning_examples.proofs.PromisedMeant.{promises_are_meant}
use Rattle.ats_meaning_examples.proofs.laws.promises_are_meant.Goals as goal

pub returns : goal.returns
returns c = promises_are_meant
