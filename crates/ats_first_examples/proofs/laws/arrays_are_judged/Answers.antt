use Rattle.ats_first_examples.proofs.ArraysJudged.{arrays_are_judged}
use Rattle.ats_first_examples.proofs.laws.arrays_are_judged.Goals as goal

pub returns : goal.returns
returns c = arrays_are_judged
