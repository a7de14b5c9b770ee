use Rattle.std.proofs.Common.{◌≡◌, ◌+◌, ◌<◌, ◌≤◌, ℕ, length, get_or}
use Rattle.ats_admission_state.proofs.spares.lower_all.Given as goal

-- the spares so far are lowered, and the others stay
abbrev pub invariant-loop-number : goal.invariant-loop-number
invariant-loop-number l = record {
  count : length l.spares ≡ length l.initial.spares;
  most : (n : ℕ) → get_or l.spares n 0 ≤ get_or l.initial.spares n 0;
  lower : (n : ℕ) → n < l.number → 0 < get_or l.spares n 0
      → get_or l.spares n 0 + l.rise ≤ get_or l.initial.spares n 0;
  rest : (n : ℕ) → l.number ≤ n → get_or l.spares n 0 ≡ get_or l.initial.spares n 0;
}
