use Rattle.std.specs.Prelude.{◌≡◌, List, [], ◌∷◌}
use Rattle.ats_clock.specs.Clock.{DeclaredClock, declared_clock}
use Rattle.ats_clock.specs.Rates.{committed, output_behind, output_of, scheduler_for}
use Rattle.ats_clock.specs.declared.committed.Committed.{Committed}

-- Rates and bursts by clocks, each where one that is reckoned in another way is another.

-- 1000 Mb/s and a frame of 1522 octets, by a clock of 1000 parts in a million with a step of 10 us: in the step the
-- scheduler's rate gives 10010.01 bits, the rate that arrives 10000, and the output's 10020.02
pub record StepsAreOfTheScheduler : Type 0 where
  pub scheduler : scheduler_for (declared_clock 1000 10000000) (committed 1000000000 12336)
      ≡ committed 1001001002 22347
  pub output : output_of (declared_clock 1000 10000000) (committed 1001001002 22347) ≡ committed 1002002004 32358

-- a clock of 100 parts in a million with a step of 7 ns. Before it is rounded up, at 142857142.71, the scheduler's rate
-- gives less than a bit in a step; as it is, it gives more than one
pub record RatesAreRoundedFirst : Type 0 where
  pub scheduler : scheduler_for (declared_clock 100 7000) (committed 142842857 12336) ≡ committed 142857143 12338
  pub output : output_of (declared_clock 100 7000) (committed 142857143 12338) ≡ committed 142871429 12340

-- a clock that deviates without a step: the scheduler's burst stays, and that of its output has a bit more, for what
-- the rate gives in the deviation of a picosecond. Both parts are rounded up together: 720.95 bits of a step and
-- 0.000009 of the deviation are 721
pub record PicosecondsDeviate : Type 0 where
  pub scheduler : scheduler_for (declared_clock 50 0) (committed 100020004 12338) ≡ committed 100025006 12338
  pub output : output_of (declared_clock 50 0) (committed 100025006 12338) ≡ committed 100030008 12339
  pub beside_step : output_of (declared_clock 100 8000) (committed 90118750000 12336) ≡ committed 90127761875 13057

-- behind a clock that deviates and ticks every 8 ns, and behind one that is kept within a microsecond: in the order in
-- which frames come to them
pub record ClocksGoInOrder : Type 0 where
  pub in_order : output_behind (declared_clock 100 8000 ∷ declared_clock 0 2000000 ∷ []) (committed 100000000 12336)
      ≡ committed 100020004 12740
  pub turned : output_behind (declared_clock 0 2000000 ∷ declared_clock 100 8000 ∷ []) (committed 100000000 12336)
      ≡ committed 100020004 12738

-- behind any clocks, one after another, comes what each lets through of what comes to it. Refuses greater rates or
-- bursts than these, by which all bounds would hold as well
pub record EachClockIsNext : Type 0 where
  pub no_clock : (arriving : Committed) → output_behind [] arriving ≡ arriving
  pub next : (clock : DeclaredClock) (clocks : List DeclaredClock) (arriving : Committed)
      → output_behind (clock ∷ clocks) arriving
      ≡ output_behind clocks (output_of clock (scheduler_for clock arriving))

pub record RatesAreRounded : Type 0 where
  pub steps : StepsAreOfTheScheduler
  pub first : RatesAreRoundedFirst
  pub picoseconds : PicosecondsDeviate
  pub order : ClocksGoInOrder
  pub next : EachClockIsNext
