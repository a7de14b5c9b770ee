use Rattle.std.specs.Prelude.{◌≡◌, ℕ, ◌<◌, ◌≤◌, List, replicate, All}
use Rattle.ats_clock.specs.declared.clock.TheConstants.{MILLION}
use Rattle.ats_clock.specs.declared.committed.Committed.{Committed}
use Rattle.ats_clock.specs.Clock.{DeclaredClock, KeepsClock, declared_clock, ideal}
use Rattle.ats_clock.specs.Rates.{committed, output_behind, output_of, scheduler_for}

-- the ideal clock, which shows true time, keeps each deviation and step
abbrev pub IdealKeepsEach : Type 0
IdealKeepsEach = (clock : DeclaredClock) → KeepsClock clock (λ t. t)

-- neither the deviation nor the step is greater than another clock's
pub record IsNoWorse (clock wider : DeclaredClock) : Type 0 where
  pub deviation : clock.deviation_ppm ≤ wider.deviation_ppm
  pub step : clock.step_ps ≤ wider.step_ps

-- a clock that keeps a deviation and a step keeps greater ones
abbrev pub KeepsGreater : Type 0
KeepsGreater = (clock wider : DeclaredClock) (shows : ℕ → ℕ) → IsNoWorse clock wider → KeepsClock clock shows
    → KeepsClock wider shows

-- neither the rate nor the burst is greater than another's
pub record IsNoGreater (c greater : Committed) : Type 0 where
  pub rate : c.rate ≤ greater.rate
  pub burst : c.burst_bits ≤ greater.burst_bits

-- the ideal clock changes no rate and no burst
pub record IsUnchanged (c : Committed) : Type 0 where
  pub scheduler : scheduler_for ideal c ≡ c
  pub output : output_of ideal c ≡ c

abbrev pub IdealChangesNothing : Type 0
IdealChangesNothing = (c : Committed) → IsUnchanged c

-- from what arrives to the scheduler, and from the scheduler to its output, neither rate nor burst falls
pub record IsNeverLess (clock : DeclaredClock) (c : Committed) : Type 0 where
  pub scheduler : IsNoGreater c (scheduler_for clock c)
  pub output : IsNoGreater c (output_of clock c)

abbrev pub NeverFalls : Type 0
NeverFalls = (clock : DeclaredClock) (c : Committed) → clock.deviation_ppm < MILLION → IsNeverLess clock c

-- nor along a path of bridges
abbrev pub NeverFallsAlong : Type 0
NeverFallsAlong = (clocks : List DeclaredClock) (c : Committed)
    → All (λ (clock : DeclaredClock). clock.deviation_ppm < MILLION) clocks → IsNoGreater c (output_behind clocks c)

-- by a better clock, and of a smaller rate and burst, they are no greater
pub record AreNoGreater (clock wider : DeclaredClock) (c greater : Committed) : Type 0 where
  pub scheduler : IsNoGreater (scheduler_for clock c) (scheduler_for wider greater)
  pub output : IsNoGreater (output_of clock c) (output_of wider greater)

abbrev pub AreMonotone : Type 0
AreMonotone = (clock wider : DeclaredClock) (c greater : Committed) → wider.deviation_ppm < MILLION
    → IsNoWorse clock wider → IsNoGreater c greater → AreNoGreater clock wider c greater

-- worked out by hand, of 100 Mb/s and a frame of 1522 octets: a free-running clock of 100 parts in a million that ticks
-- every 8 ns
pub record FreeRunning : Type 0 where
  pub scheduler : scheduler_for (declared_clock 100 8000) (committed 100000000 12336) ≡ committed 100010002 12337
  pub output : output_of (declared_clock 100 8000) (committed 100010002 12337) ≡ committed 100020004 12338
  pub behind_seven : output_behind (replicate 7 (declared_clock 100 8000)) (committed 100000000 12336)
      ≡ committed 100140112 12350
  pub behind_fifteen : output_behind (replicate 15 (declared_clock 100 8000)) (committed 100000000 12336)
      ≡ committed 100300480 12366

-- and one that is kept within a microsecond of true time, so that its step is two microseconds
pub record Synchronised : Type 0 where
  pub scheduler : scheduler_for (declared_clock 0 2000000) (committed 100000000 12336) ≡ committed 100000000 12536
  pub output : output_of (declared_clock 0 2000000) (committed 100000000 12536) ≡ committed 100000000 12736
  pub behind_fifteen : output_behind (replicate 15 (declared_clock 0 2000000)) (committed 100000000 12336)
      ≡ committed 100000000 18336
