use Rattle.std.proofs.Common.{◌≡◌, ℕ, ◌<◌, length, slice_index_or}
use Rattle.ats_fit.specs.Steps.{Gauging, IsTold}
use Rattle.ats_fit.specs.declared.measured.Measured.{Measured}
use Rattle.ats_fit.proofs.fitting.told.Given as goal

abbrev pub invariant-loop-gauge : goal.invariant-loop-gauge
invariant-loop-gauge l = record {
  count : length l.measured.items ≡ l.gauge-index;
  each : (i : ℕ) (g : Gauging) (d : Measured) → i < l.gauge-index
      → IsTold (slice_index_or l.gauges i g) (slice_index_or l.measured.items i d);
}
