use Rattle.std.specs.Prelude.{ℕ, ◌+◌, ◌-◌, ◌*◌, ◌≤◌}
use Rattle.ats_clock.specs.declared.clock.TheConstants.{MILLION, MAX_DEVIATION_PPM, MAX_STEP_PS}

-- what a bridge declares of the clock that its schedulers go by: the greatest deviation of the clock's rate, in parts
-- in a million, and its step, in picoseconds
pub record DeclaredClock : Type 0 where
  pub deviation_ppm : ℕ
  pub step_ps : ℕ

abbrev pub declared_clock : ℕ → ℕ → DeclaredClock
declared_clock deviation_ppm step_ps = record { deviation_ppm = deviation_ppm; step_ps = step_ps }

-- the ideal clock neither deviates nor steps
abbrev pub ideal : DeclaredClock
ideal = declared_clock 0 0

-- at most 1000 parts in a million, and at most 10 microseconds
pub record IsClock (clock : DeclaredClock) : Type 0 where
  pub deviation : clock.deviation_ppm ≤ MAX_DEVIATION_PPM
  pub step : clock.step_ps ≤ MAX_STEP_PS

-- a clock, told by the picoseconds that it shows at each picosecond of true time, keeps a deviation and a step: it
-- never goes back, and from each time to each later one it gains no less and no more than its rate may give, but for a
-- step
pub record KeepsClock (clock : DeclaredClock) (shows : ℕ → ℕ) : Type 0 where
  pub in_order : (s t : ℕ) → s ≤ t → shows s ≤ shows t
  pub no_slower : (s t : ℕ) → s ≤ t
      → (MILLION - clock.deviation_ppm) * (t - s) ≤ MILLION * (shows t - shows s) + MILLION * clock.step_ps
  pub no_faster : (s t : ℕ) → s ≤ t
      → MILLION * (shows t - shows s) ≤ (MILLION + clock.deviation_ppm) * (t - s) + MILLION * clock.step_ps
