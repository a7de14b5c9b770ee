use Rattle.ats_examples.proofs.GroupProofs.{bucket_emptied, rounded_up, order_counts, late_is_soon}
use Rattle.ats_examples.proofs.group_laws.worked_rows.Goals as goal

pub returns : goal.returns
returns c = record {
  bucket_emptied = bucket_emptied;
  rounded_up = rounded_up;
  order_counts = order_counts;
  late_is_soon = late_is_soon;
}
