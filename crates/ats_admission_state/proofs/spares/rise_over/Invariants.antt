use Rattle.std.proofs.Common.{◌+◌, ◌<◌, ◌≤◌, ℕ, slice_index_or}
use Rattle.ats_admission_state.proofs.spares.rise_over.Given as goal

-- no bound so far is greater by more
abbrev pub invariant-loop-class : goal.invariant-loop-class
invariant-loop-class l = (class : ℕ) → class < l.class
    → slice_index_or l.eight class 0 ≤ slice_index_or l.before class 0 + l.rise
