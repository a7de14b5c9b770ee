use Rattle.ats_examples.proofs.JudgeProofs.{regulator_counts}
use Rattle.ats_examples.proofs.soundness_laws.regulator_counts.Goals as goal

pub returns : goal.returns
returns c = regulator_counts
