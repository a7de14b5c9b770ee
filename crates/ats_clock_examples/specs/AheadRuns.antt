use Rattle.std.specs.Prelude.{ℕ, ◌+◌}
use Rattle.ats_clock.specs.Clock.{KeepsClock, ideal}
use Rattle.ats_trace.specs.Run.{IsIdeal}
use Rattle.ats_examples.specs.ClockedRuns.{held_until, slow, slow_line}
use Rattle.ats_examples.specs.Networks.{line}
use Rattle.ats_examples.specs.Runs.{regulated}
use Rattle.ats_clock_examples.specs.Clocked.{IsLegalWith}
use Rattle.ats_clock_examples.specs.StaysByClock.{bridge_shows}

-- Runs in which a bridge's clock is ahead of true time.

-- a clock that is a second ahead, and one that is slow besides
abbrev pub ahead : ℕ → ℕ
ahead t = t + 1000000000000

abbrev pub ahead_and_slow : ℕ → ℕ
ahead_and_slow t = slow t + 1000000000000

-- a clock need not begin with true time: the ideal clock may be ahead, and then the run over the line in which a frame
-- is held is legal as by true time; and so is the one by a slow clock where that is ahead
pub record ClocksMayBeAhead : Type 0 where
  pub keeps : KeepsClock ideal ahead
  pub legal : IsLegalWith (bridge_shows ahead) line regulated
  pub in_true_time : IsIdeal line regulated
  pub slow : IsLegalWith (bridge_shows ahead_and_slow) slow_line (held_until 20546000)
