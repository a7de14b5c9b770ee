use Rattle.std.specs.Prelude.{ℕ, ◌+◌, ◌-◌, ◌*◌, ◌≤◌, List, fold}
use Rattle.ats_num.specs.Division.{ceiling}
use Rattle.ats_num.specs.Rate.{IsRate}
use Rattle.ats_num.specs.declared.rate.TheConstants.{MAX_BURST_BITS}
use Rattle.ats_num.specs.declared.time.TheConstants.{PS_PER_SECOND}
use Rattle.ats_clock.specs.declared.clock.TheConstants.{MILLION}
use Rattle.ats_clock.specs.declared.committed.Committed.{Committed}
use Rattle.ats_clock.specs.Clock.{DeclaredClock}

-- a rate in bits per second and a burst in bits
abbrev pub committed : ℕ → ℕ → Committed
committed rate_bps burst_bits = record { rate = rate_bps; burst_bits = burst_bits }

-- both are within the limits of a scheduler: 1 to 100,000,000,000 bits per second, at most 1,000,000,000 bits
pub record IsCommitted (c : Committed) : Type 0 where
  pub rate : IsRate c.rate
  pub burst : c.burst_bits ≤ MAX_BURST_BITS

-- what a scheduler is to have that goes by this clock, for frames that conform in true time to this rate and burst at
-- the hop before: the rate that gives as much while the clock is slow, and the burst with what that rate gives in a
-- step
abbrev pub scheduler_for : DeclaredClock → Committed → Committed
scheduler_for clock arriving =
    let rate : ℕ = ceiling (MILLION * arriving.rate) (MILLION - clock.deviation_ppm) in
    committed rate (arriving.burst_bits + ceiling (rate * clock.step_ps) PS_PER_SECOND)

-- what frames conform to in true time that such a scheduler lets through by this clock: the rate that gives as much
-- while the clock is fast, and the burst with what the scheduler's rate gives in a step and in the deviation of a
-- picosecond
abbrev pub output_of : DeclaredClock → Committed → Committed
output_of clock scheduler =
    committed (ceiling (scheduler.rate * (MILLION + clock.deviation_ppm)) MILLION) (scheduler.burst_bits
    + ceiling (scheduler.rate * (MILLION * clock.step_ps + clock.deviation_ppm)) (MILLION * PS_PER_SECOND))

-- what frames conform to in true time behind bridges with these clocks, one after another
abbrev pub output_behind : List DeclaredClock → Committed → Committed
output_behind clocks c =
    fold (λ (arriving : Committed) (clock : DeclaredClock). output_of clock (scheduler_for clock arriving)) c clocks
