use Rattle.std.proofs.Common.{◌≡◌, ℕ, ◌<◌, List, length, slice_index_or}
use Rattle.ats_trace.specs.declared.journey.Release.{Release}
use Rattle.ats_conform.specs.Metering.{Metering}
use Rattle.ats_conform.specs.Steps.{meter_after}
use Rattle.ats_conform.proofs.meters.meters_for.Given as goal

abbrev pub invariant-loop-stream : goal.invariant-loop-stream
invariant-loop-stream l = record {
  count : length l.meters.items ≡ l.stream-index;
  each : (releases : List Release) (i : ℕ) (d : Metering) → i < l.stream-index
      → slice_index_or l.meters.items i d ≡ meter_after l.network releases 0 i;
}
