use Rattle.std.specs.Prelude.{◌≡◌, ℕ, ◌+◌, ◌-◌, ◌*◌, ◌/◌, ◌<◌, min, max, nat_lt, if◌then◌else◌}
use Rattle.ats_clock.specs.declared.clock.TheConstants.{MILLION}
use Rattle.ats_clock.specs.Clock.{KeepsClock, declared_clock}
use Rattle.ats_clock_law.specs.Examples.{fast}
use Rattle.ats_examples.specs.ClockedRuns.{slow}

-- Clocks that just keep what is declared, and clocks that just do not.

-- a clock that leaps ahead by so many picoseconds when it would show a microsecond
abbrev pub leaping : ℕ → ℕ → ℕ
leaping leap t = if nat_lt t 1000000 then t else t + leap

-- one that stands still for so many there, and so stays behind
abbrev pub standing : ℕ → ℕ → ℕ
standing stand t = max (min t 1000000) (t - stand)

-- and one that goes back by a picosecond there
abbrev pub going_back : ℕ → ℕ
going_back t = if nat_lt t 1000000 then t else t - 2

-- a clock may leap ahead or stand still at once by its whole step, and by no more; and however great its step is, it
-- may not go back
pub record StepsAreWhole : Type 0 where
  pub leaps : KeepsClock (declared_clock 0 8000) (leaping 8000)
  pub leaps_too_far : ¬ KeepsClock (declared_clock 0 8000) (leaping 8001)
  pub stands : KeepsClock (declared_clock 0 8000) (standing 8000)
  pub stands_too_long : ¬ KeepsClock (declared_clock 0 8000) (standing 8001)
  pub goes_back : ¬ KeepsClock (declared_clock 0 8000) going_back

-- a deviation is counted in picoseconds of true time, to both sides: a clock that shows 9999 or 10001 picoseconds in
-- 10000 of them deviates by 100 parts in a million, and one that shows 9998 or 10000 in 9999 by more
pub record DeviationsAreOfTrueTime : Type 0 where
  pub slow : KeepsClock (declared_clock 100 1) slow
  pub too_slow : ¬ KeepsClock (declared_clock 100 8000) (λ t. 9998 * t / 9999)
  pub fast : KeepsClock (declared_clock 100 1) fast
  pub too_fast : ¬ KeepsClock (declared_clock 100 8000) (λ t. 10000 * t / 9999)

-- a clock without a step does not deviate, whatever it declares, since it counts whole picoseconds: it shows true time
-- but for a constant
abbrev pub DeviationNeedsAStep : Type 0
DeviationNeedsAStep = (deviation_ppm : ℕ) (shows : ℕ → ℕ) → deviation_ppm < MILLION
    → KeepsClock (declared_clock deviation_ppm 0) shows → (t : ℕ) → shows t ≡ shows 0 + t

pub record ClocksAreAtTheirEdges : Type 0 where
  pub steps : StepsAreWhole
  pub deviations : DeviationsAreOfTrueTime
  pub no_step : DeviationNeedsAStep
