use Rattle.ats_exact_examples.proofs.MakingProofs.{making_is_meant}
use Rattle.ats_exact_examples.proofs.laws.making_is_meant.Goals as goal

pub returns : goal.returns
returns c = making_is_meant
