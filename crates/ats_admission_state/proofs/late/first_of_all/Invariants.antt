use Rattle.std.proofs.Common.{◌≡◌, ◌<◌, ℕ, false, slice_index_or}
use Rattle.ats_admission_state.specs.Routes.{is_late, no_route}
use Rattle.ats_admission_state.specs.Spares.{AreSpares}
use Rattle.ats_admission_state.proofs.late.first_of_all.Given as goal

-- none so far is late
abbrev pub invariant-loop-number : goal.invariant-loop-number
invariant-loop-number l = record {
  none : (n : ℕ) → n < l.number → is_late l.bounds (slice_index_or l.routes n no_route) ≡ false;
  spares : AreSpares l.bounds l.routes l.spares;
}
