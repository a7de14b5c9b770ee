use Rattle.ats_examples.proofs.DeviationProofs.{each_part_counts}
use Rattle.ats_examples.proofs.run_laws.each_part_counts.Goals as goal

pub returns : goal.returns
returns c = each_part_counts
