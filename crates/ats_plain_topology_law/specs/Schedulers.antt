use Rattle.std.specs.Prelude.{◌≡◌, ℕ, ◌+◌, ◌-◌, ◌*◌}
use Rattle.ats_num.specs.Division.{ceiling}
use Rattle.ats_clock.specs.Clock.{DeclaredClock, ideal}
use Rattle.ats_clock.specs.Rates.{committed, output_of, scheduler_for}
use Rattle.ats_clock.specs.declared.committed.Committed.{Committed}

-- the ideal clock has no deviation and no step
pub record IdealIsGiven : Type 0 where
  pub deviation : ideal.deviation_ppm ≡ 0
  pub step : ideal.step_ps ≡ 0

-- what is committed has the rate and the burst that it is made of. By a clock that may be slow by some ppm a scheduler
-- needs the rate of what arrives times 10^6 / (10^6 - ppm), and the burst with what that rate gives in a step; by one
-- that may be fast it lets out its own rate times (10^6 + ppm) / 10^6, and its burst with what its rate gives in a step
-- and ppm / 10^6 of a picosecond; each of them rounded up
pub record RatesAreRounded : Type 0 where
  pub rate_is : (rate burst : ℕ) → (committed rate burst).rate ≡ rate
  pub burst_is : (rate burst : ℕ) → (committed rate burst).burst_bits ≡ burst
  pub rate_for : (clock : DeclaredClock) (arriving : Committed) → (scheduler_for clock arriving).rate
      ≡ ceiling (1000000 * arriving.rate) (1000000 - clock.deviation_ppm)
  pub burst_for : (clock : DeclaredClock) (arriving : Committed) → (scheduler_for clock arriving).burst_bits
      ≡ arriving.burst_bits
      + ceiling (ceiling (1000000 * arriving.rate) (1000000 - clock.deviation_ppm) * clock.step_ps) 1000000000000
  pub rate_of : (clock : DeclaredClock) (scheduler : Committed) → (output_of clock scheduler).rate
      ≡ ceiling (scheduler.rate * (1000000 + clock.deviation_ppm)) 1000000
  pub burst_of : (clock : DeclaredClock) (scheduler : Committed) → (output_of clock scheduler).burst_bits
      ≡ scheduler.burst_bits
      + ceiling (scheduler.rate * (1000000 * clock.step_ps + clock.deviation_ppm)) 1000000000000000000

pub record SchedulersAreGiven : Type 0 where
  pub ideal : IdealIsGiven
  pub rates : RatesAreRounded
