use Rattle.std.proofs.Common.{◌≡◌, ℕ, zero, suc, ◌+◌, ◌-◌, ◌*◌, ◌/◌, ◌<◌, ◌≤◌, ◌⊎◌, inl, inr, refl, arith, lit≤, subst}
use Rattle.std.proofs.lemmas.Bool.{cases_lt, lt-ltb, le-ltb}
use Rattle.ats_clock.specs.Clock.{KeepsClock, declared_clock}
use Rattle.ats_clock_examples.specs.ClockEdges.{ClocksAreAtTheirEdges, DeviationNeedsAStep, going_back, leaping}
use Rattle.ats_clock_examples.specs.ClockEdges.{standing}
use Rattle.ats_clock_examples.proofs.StayProofs.{fast_keeps}
use Rattle.ats_clock_examples.proofs.TwoClockProofs.{slow_keeps}

-- Clocks at the edge of what they declare.

-- what the leaping clock shows
abbrev Leapt : ℕ → ℕ → Type 0
Leapt leap t = ((t < 1000000) × (leaping leap t ≡ t)) ⊎ ((1000000 ≤ t) × (leaping leap t ≡ t + leap))

leapt : (leap t : ℕ) → Leapt leap t
leapt leap t = elim (cases_lt t 1000000) as (λ _. Leapt leap t) [
  | inl before ↦ inl (before, rw (lt-ltb t 1000000 before) refl)
  | inr since ↦ inr (since, rw (le-ltb t 1000000 since) refl)
]

-- it gains no less than is due, and no more than that and the leap
abbrev Leaps : ℕ → ℕ → Type 0
Leaps s t = (leaping 8000 s + (t - s) ≤ leaping 8000 t) × (leaping 8000 t ≤ leaping 8000 s + (t - s) + 8000)

leaps : (s t : ℕ) → s ≤ t → Leaps s t
leaps s t h = elim (leapt 8000 s) as (λ _. Leaps s t) [
  | inl early ↦ elim (leapt 8000 t) as (λ _. Leaps s t) [
    | inl before ↦ (omega (arith, h, early.1, before.1), omega (arith, h, early.1, before.1))
    | inr since ↦ (omega (arith, h, early.1, since.1), omega (arith, h, early.1, since.1))
  ]
  | inr late ↦ elim (leapt 8000 t) as (λ _. Leaps s t) [
    | inl before ↦ absurd (omega (arith, h, late.0, before.0))
    | inr since ↦ (omega (arith, h, late.1, since.1), omega (arith, h, late.1, since.1))
  ]
]

leaping_keeps : KeepsClock (declared_clock 0 8000) (leaping 8000)
leaping_keeps = record {
  in_order = λ s t h. omega (arith, (leaps s t h).0);
  no_slower = λ s t h. omega (arith, (leaps s t h).0);
  no_faster = λ s t h. omega (arith, (leaps s t h).1);
}

standing_keeps : KeepsClock (declared_clock 0 8000) (standing 8000)
standing_keeps = record {
  in_order = λ s t h. omega (arith, h);
  no_slower = λ s t h. omega (arith, h);
  no_faster = λ s t h. omega (arith, h);
}

leaps_too_far : ¬ KeepsClock (declared_clock 0 8000) (leaping 8001)
leaps_too_far keeps =
    let over : 1000000 * 8002 ≤ 1000000 * 1 + 1000000 * 8000 = keeps.no_faster 999999 1000000 (lit≤ tt) in
    absurd (omega (arith, over))

stands_too_long : ¬ KeepsClock (declared_clock 0 8000) (standing 8001)
stands_too_long keeps =
    let over : 1000000 * 8001 ≤ 1000000 * 0 + 1000000 * 8000 = keeps.no_slower 1000000 1008001 (lit≤ tt) in
    absurd (omega (arith, over))

goes_back : ¬ KeepsClock (declared_clock 0 8000) going_back
goes_back keeps =
    let back : 999999 ≤ 999998 = keeps.in_order 999999 1000000 (lit≤ tt) in
    absurd (omega (arith, back))

-- in 10 ^ 13 picoseconds each is 100000 over
too_slow : ¬ KeepsClock (declared_clock 100 8000) (λ t. 9998 * t / 9999)
too_slow keeps =
    let over : 999900 * 10000000000000 ≤ 1000000 * 9998999899989 + 1000000 * 8000 =
    keeps.no_slower 0 10000000000000 (lit≤ tt) in
    absurd (omega (arith, over))

too_fast : ¬ KeepsClock (declared_clock 100 8000) (λ t. 10000 * t / 9999)
too_fast keeps =
    let over : 1000000 * 10001000100010 ≤ 1000100 * 10000000000000 + 1000000 * 8000 =
    keeps.no_faster 0 10000000000000 (lit≤ tt) in
    absurd (omega (arith, over))

-- in a picosecond such a clock shows one
one_shown : (deviation_ppm gain : ℕ) → deviation_ppm < 1000000
    → (1000000 - deviation_ppm) * 1 ≤ 1000000 * gain + 1000000 * 0
    → 1000000 * gain ≤ (1000000 + deviation_ppm) * 1 + 1000000 * 0 → gain ≡ 1
one_shown deviation_ppm gain most low high = omega (arith, most, low, high)

no_step : DeviationNeedsAStep
no_step deviation_ppm shows most keeps zero = omega arith
no_step deviation_ppm shows most keeps (suc t) =
    let gain : ℕ = shows (suc t) - shows t in
    let next : t ≤ suc t = omega arith in
    let one : suc t - t ≡ 1 = omega arith in
    let before : shows t ≡ shows 0 + t = no_step deviation_ppm shows most keeps t in
    let low : (1000000 - deviation_ppm) * 1 ≤ 1000000 * gain + 1000000 * 0 =
    subst (λ (n : ℕ). (1000000 - deviation_ppm) * n ≤ 1000000 * gain + 1000000 * 0) one
    (keeps.no_slower t (suc t) next) in
    let high : 1000000 * gain ≤ (1000000 + deviation_ppm) * 1 + 1000000 * 0 =
    subst (λ (n : ℕ). 1000000 * gain ≤ (1000000 + deviation_ppm) * n + 1000000 * 0) one
    (keeps.no_faster t (suc t) next) in
    let shown : gain ≡ 1 = one_shown deviation_ppm gain most low high in
    omega (arith, before, shown)

pub clocks_are_at_their_edges : ClocksAreAtTheirEdges
clocks_are_at_their_edges = record {
  steps = record {
    leaps = leaping_keeps;
    leaps_too_far = leaps_too_far;
    stands = standing_keeps;
    stands_too_long = stands_too_long;
    goes_back = goes_back;
  };
  deviations = record { slow = slow_keeps; too_slow = too_slow; fast = fast_keeps; too_fast = too_fast };
  no_step = no_step;
}
