use Rattle.std.specs.Prelude.{◌≡◌, ◌↔◌, ℕ, ◌+◌, ◌-◌, ◌*◌, ◌<◌, ◌≤◌}
use Rattle.ats_num.specs.Division.{IsCeiling}
use Rattle.ats_clock.specs.Clock.{DeclaredClock, ideal}
use Rattle.ats_clock.specs.Laws.{AreNoGreater, IsNeverLess, IsNoGreater, IsNoWorse, IsUnchanged}
use Rattle.ats_clock.specs.Rates.{output_of, scheduler_for}
use Rattle.ats_clock.specs.declared.committed.Committed.{Committed}
use Rattle.ats_certificate.specs.Certificate.{need_by}

-- What laws ask and conclude of what a clock makes of a rate and a burst, part by part, both ways; and what it makes of
-- them and of a stay, of any numbers: each is the least whole one that is as much.

-- neither deviation nor step is greater; neither rate nor burst is
pub record ComparingIsMeant : Type 0 where
  pub no_worse : (clock wider : DeclaredClock) → IsNoWorse clock wider
      ↔ ((clock.deviation_ppm ≤ wider.deviation_ppm) × (clock.step_ps ≤ wider.step_ps))
  pub no_greater : (c greater : Committed) → IsNoGreater c greater
      ↔ ((c.rate ≤ greater.rate) × (c.burst_bits ≤ greater.burst_bits))

-- so it is of both what a scheduler is to have and what it lets through
pub record BothAreMeant : Type 0 where
  pub unchanged : (c : Committed) → IsUnchanged c ↔ ((scheduler_for ideal c ≡ c) × (output_of ideal c ≡ c))
  pub never_less : (clock : DeclaredClock) (c : Committed) → IsNeverLess clock c
      ↔ (IsNoGreater c (scheduler_for clock c) × IsNoGreater c (output_of clock c))
  pub no_greater : (clock wider : DeclaredClock) (c greater : Committed) → AreNoGreater clock wider c greater
      ↔ (IsNoGreater (scheduler_for clock c) (scheduler_for wider greater)
      × IsNoGreater (output_of clock c) (output_of wider greater))

-- a scheduler's rate gives while the clock is slow what arrives, and its burst is larger by what this rate gives in a
-- step; what it lets through has the rate while the clock is fast, and a burst that is larger by what the scheduler's
-- rate gives in a step and in the deviation of a picosecond. A stay is longer by the step, and by what the clock gains
-- meanwhile
pub record NumbersAreLeast : Type 0 where
  pub rate : (clock : DeclaredClock) (c : Committed) → clock.deviation_ppm < 1000000
      → IsCeiling (1000000 * c.rate) (1000000 - clock.deviation_ppm) (scheduler_for clock c).rate
  pub burst : (clock : DeclaredClock) (c : Committed) → (more : ℕ)
      × IsCeiling ((scheduler_for clock c).rate * clock.step_ps) 1000000000000 more
      × ((scheduler_for clock c).burst_bits ≡ c.burst_bits + more)
  pub rate_behind : (clock : DeclaredClock) (c : Committed)
      → IsCeiling (c.rate * (1000000 + clock.deviation_ppm)) 1000000 (output_of clock c).rate
  pub burst_behind : (clock : DeclaredClock) (c : Committed) → (more : ℕ)
      × IsCeiling (c.rate * (1000000 * clock.step_ps + clock.deviation_ppm)) 1000000000000000000 more
      × ((output_of clock c).burst_bits ≡ c.burst_bits + more)
  pub stay : (clock : DeclaredClock) (need : ℕ) → (more : ℕ)
      × IsCeiling (clock.deviation_ppm * need) 1000000 more × (need_by clock need ≡ need + clock.step_ps + more)

pub record ClocksAreMeant : Type 0 where
  pub comparing : ComparingIsMeant
  pub both : BothAreMeant
  pub numbers : NumbersAreLeast
