use Rattle.std.specs.Prelude.{ℕ, ◌+◌, ◌-◌, ◌*◌, ◌≤◌, min, List, [], ◌∷◌}
use Rattle.ats_clock.specs.Clock.{KeepsClock, declared_clock}
use Rattle.ats_clock_law.specs.Examples.{fast}
use Rattle.ats_network.specs.Network.{DeclaredNetwork, IsNetwork}
use Rattle.ats_trace.specs.Clocks.{IsLegal}
use Rattle.ats_trace.specs.Journey.{Travel}
use Rattle.ats_trace.specs.Run.{IsIdeal}
use Rattle.ats_examples.specs.ClockedRuns.{held_until, slow}
use Rattle.ats_examples.specs.Runs.{hop, sunk}
use Rattle.ats_clock_examples.specs.Clocked.{IsLegalWith}
use Rattle.ats_clock_examples.specs.Needs.{staying}
use Rattle.ats_clock_examples.specs.StaysByClock.{bridge_shows}

-- Runs by clocks that gain on true time, and by one whose rate changes.

-- the line over a bridge whose clock deviates by 100 parts in a million at most and never steps by more than a
-- picosecond
abbrev pub deviating_line : DeclaredNetwork
deviating_line = staying 1000000 100 1

-- by the fast clock the bridge holds the short frame for 671 ps less than by true time. The run is legal by no clock
-- that gains less from the arrival of the first frame, though a step gives no more than one picosecond of these
pub record ClocksMayGain : Type 0 where
  pub network : IsNetwork deviating_line
  pub keeps_clock : KeepsClock (declared_clock 100 1) fast
  pub legal : IsLegalWith (bridge_shows fast) deviating_line (held_until 20544658)
  pub in_true_time : IsIdeal deviating_line (held_until 20545329)
  pub not_ideal : ¬ IsIdeal deviating_line (held_until 20544658)
  pub gains : (legal : IsLegal deviating_line (held_until 20544658))
      → legal.clocks 2 13836000 + (20544658 - 13836000) + 671 ≤ legal.clocks 2 20544658

-- a clock goes at one rate where it shows so many picoseconds in so many of true time, but for a step
pub record GoesAtOneRate (step_ps : ℕ) (shows : ℕ → ℕ) : Type 0 where
  pub shown : ℕ
  pub true_ps : ℕ
  pub some : 1 ≤ true_ps
  pub no_slower : (s t : ℕ) → s ≤ t → shown * (t - s) ≤ true_ps * (shows t - shows s) + true_ps * step_ps
  pub no_faster : (s t : ℕ) → s ≤ t → true_ps * (shows t - shows s) ≤ shown * (t - s) + true_ps * step_ps

-- a clock that is slow until a time, and fast from then on
abbrev pub slow_then_fast : ℕ → ℕ
slow_then_fast t = slow (min t 20546000) + fast (t - 20546000)

-- a frame that is as long as the burst, and two short ones, of which the bridge holds the first for 671 ps longer than
-- by true time, and the second until the time at which it would be eligible by true time
abbrev pub two_held : List Travel
two_held =
    sunk 0 0 1522 (hop 0 0 0 12336000 ∷ hop 13836000 13836000 13836000 26172000 ∷ []) 26672000
    ∷ sunk 6720000 0 64 (hop 6720000 6720000 12336000 13008000 ∷ hop 14508000 20546000 26172000 26844000 ∷ []) 27344000
    ∷ sunk 6720000 0 64 (hop 6720000 6720000 13008000 13680000 ∷ hop 15180000 27264657 27264657 27936657 ∷ []) 28436657
    ∷ []

-- the rate may change within the deviation: each clock by which the run is legal loses 671 ps or more until the first
-- short frame is eligible, and gains as much from then on. So none goes at one rate
pub record RatesMayChange : Type 0 where
  pub keeps_clock : KeepsClock (declared_clock 100 1) slow_then_fast
  pub legal : IsLegalWith (bridge_shows slow_then_fast) deviating_line two_held
  pub not_ideal : ¬ IsIdeal deviating_line two_held
  pub loses : (legal : IsLegal deviating_line two_held)
      → legal.clocks 2 20545999 + 671 ≤ legal.clocks 2 13836000 + (20545999 - 13836000)
  pub gains : (legal : IsLegal deviating_line two_held)
      → legal.clocks 2 20545999 + (27264657 - 20545999) + 671 ≤ legal.clocks 2 27264657
  pub slow_at_one : GoesAtOneRate 1 slow
  pub fast_at_one : GoesAtOneRate 1 fast
  pub not_at_one_rate : (legal : IsLegal deviating_line two_held) → ¬ GoesAtOneRate 1 (legal.clocks 2)
