use Rattle.std.proofs.Common.{◌≡◌, ℕ, ◌<◌, [], length, slice_index_or}
use Rattle.ats_bucket.specs.Scheduler.{Bucket}
use Rattle.ats_gen.specs.Making.{bucket_after}
use Rattle.ats_gen.proofs.making.schedulers_for.Given as goal

abbrev pub invariant-loop-stream : goal.invariant-loop-stream
invariant-loop-stream l = record {
  count : length l.schedulers.items ≡ l.stream-index;
  each : (i : ℕ) (d : Bucket) → i < l.stream-index
      → slice_index_or l.schedulers.items i d ≡ bucket_after l.network [] i;
}
