use Rattle.ats_examples.proofs.SoundRunProofs.{exact_examples, exactness_counts, order_does_not_count}
use Rattle.ats_examples.proofs.soundness_laws.more_examples.Goals as goal

pub returns : goal.returns
returns c = record {
  exact = exact_examples;
  exactness_counts = exactness_counts;
  turned = order_does_not_count;
}
