use Rattle.ats_lrq_examples.proofs.MetProofs as example
use Rattle.ats_lrq_examples.proofs.laws.spacing_counts.Goals as goal

pub returns : goal.returns
returns c = example.spacing_counts
