use Rattle.std.proofs.Common.{◌≡◌, ℕ, ◌<◌, length, slice_index_or}
use Rattle.ats_fit.specs.Steps.{Gauging, first_gauge}
use Rattle.ats_fit.proofs.fitting.gauges_for.Given as goal

abbrev pub invariant-loop-sender : goal.invariant-loop-sender
invariant-loop-sender l = record {
  count : length l.gauges.items ≡ l.sender;
  each : (i : ℕ) (d : Gauging) → i < l.sender → slice_index_or l.gauges.items i d ≡ first_gauge l.network i;
}
