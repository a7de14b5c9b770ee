use Rattle.std.specs.Prelude.{◌≡◌, ℕ, ◌+◌, ◌-◌, ◌*◌, ◌/◌, ◌≤◌, List, [], ◌∷◌, map, AllPairs}
use Rattle.std.specs.List.{AllZip}
use Rattle.std.specs.List.Sorted.{IsNonDecreasingBy}
use Rattle.ats_num.specs.declared.time.TheConstants.{PS_PER_SECOND}
use Rattle.ats_streams.specs.declared.traffic.Declared.{Declared}
use Rattle.ats_streams.specs.Traffic.{IsRuled, declared_as}
use Rattle.ats_bucket.specs.Conforming.{Frame}
use Rattle.ats_group.specs.declared.verdict.Verdict.{Verdict}
use Rattle.ats_group.specs.declared.verdict.Verdict.TheVariants.{Eligible, Late}
use Rattle.ats_group.specs.Group.{Offer}
use Rattle.ats_group.specs.Judge.{ats_judge}
use Rattle.ats_group_law.specs.Accepted.{accepted_of}
use Rattle.ats_clock.specs.declared.clock.TheConstants.{MILLION}
use Rattle.ats_clock.specs.Clock.{KeepsClock, declared_clock, ideal}
use Rattle.ats_clock.specs.Rates.{committed, output_of, scheduler_for}
use Rattle.ats_clock_law.specs.Retiming.{AreEnough, AreRetimed, ConformTo, TwiceTimed, at_first, at_second}
use Rattle.ats_clock_law.specs.Retiming.{shown_frames}
use Rattle.ats_clock_law.specs.TrueTime.{AreTrueVerdicts, committed_of, stamped_offers}
use Rattle.ats_clock_law.specs.Ideal.{later_offer}
use Rattle.ats_clock_law.specs.Counted.{Told, WereTold, bits_counted}
use Rattle.ats_clock_law.specs.Crossing.{ComeThrough, Crossing, HasRoom, IsChosen, IsEligibleWithin, crossing_offers}
use Rattle.ats_clock_law.specs.Crossing.{put_back}

-- Clocks, and frames that come to groups that go by them.

-- a clock that ticks every 8 ns, one that is fast by 100 parts in a million, and one that is slow by as much
abbrev pub ticking : ℕ → ℕ
ticking t = 8000 * (t / 8000)

abbrev pub fast : ℕ → ℕ
fast t = t + t / 10000

abbrev pub slow : ℕ → ℕ
slow t = t - t / 10000

-- two frames of 1522 octets at 100 Gb/s, in true time and as the ticking clock shows it
abbrev pub two_ticks : List TwiceTimed
two_ticks =
    record { first = 0; second = 0; bits = 12336 } ∷ record { first = 123360; second = 120000; bits = 12336 } ∷ []

-- they conform as the clock shows them with the scheduler's burst, which has what the rate gives in a step, and not
-- with the burst that they have in true time
pub record StepIsNeeded : Type 0 where
  pub keeps : KeepsClock (declared_clock 0 8000) ticking
  pub shown : (ticking 0 ≡ 0) × (ticking 123360 ≡ 120000)
  pub retimed : AreRetimed MILLION MILLION (MILLION * 8000) two_ticks
  pub scheduler : scheduler_for (declared_clock 0 8000) (committed 100000000000 12336) ≡ committed 100000000000 13136
  pub enough : AreEnough MILLION MILLION (MILLION * 8000) (committed 100000000000 12336) (committed 100000000000 13136)
  pub before : ConformTo (committed 100000000000 12336) (at_first two_ticks)
  pub after : ConformTo (committed 100000000000 13136) (at_second two_ticks)
  pub not_before : ¬ ConformTo (committed 100000000000 12336) (at_second two_ticks)

-- two frames that a node sends by the ticking clock, late in one tick and early in another
abbrev pub late_and_early : List Frame
late_and_early = record { at = 7999; bits = 12336 } ∷ record { at = 128000; bits = 12336 } ∷ []

-- they conform as the clock shows them, and in true time only with what the rate gives in a step
pub record OutputIsCloser : Type 0 where
  pub shown : shown_frames ticking late_and_early
      ≡ record { at = 0; bits = 12336 } ∷ record { at = 128000; bits = 12336 } ∷ []
  pub by_clock : ConformTo (committed 100000000000 12336) (shown_frames ticking late_and_early)
  pub output : output_of (declared_clock 0 8000) (committed 100000000000 12336) ≡ committed 100000000000 13136
  pub conforms : ConformTo (committed 100000000000 13136) late_and_early
  pub not_declared : ¬ ConformTo (committed 100000000000 12336) late_and_early

-- a member with 100 Mb/s and a burst of one frame of 1522 octets, as declared and as a slow clock asks
abbrev pub as_declared : ℕ → Declared
as_declared member = declared_as 100000000 12336 64 1522

abbrev pub as_asked : ℕ → Declared
as_asked member = declared_as 100010002 12337 64 1522

abbrev pub offer_at : ℕ → Offer
offer_at arrival = record { member = 0; arrival = arrival; octets = 1522 }

abbrev pub eligible_at : ℕ → Verdict
eligible_at time = Eligible (record { 0 = time })

abbrev pub late_at : ℕ → Verdict
late_at time = Late (record { 0 = time })

-- two frames that come to a group with a residence of 1 ms close to each other
abbrev pub two_close : List Offer
two_close = offer_at 0 ∷ offer_at 12336000 ∷ []

-- the times that the group tells by the fast clock are 123,360,000 ps apart, and the frames are eligible 12,334 ps
-- closer to each other: so they conform to the output of the clock, and not to the scheduler's own rate and burst
pub record OutputIsFaster : Type 0 where
  pub keeps : KeepsClock (declared_clock 100 1) fast
  pub ruled : IsRuled (as_declared 0)
  pub told : ats_judge as_declared 1000000 (stamped_offers fast two_close) ≡ eligible_at 0 ∷ eligible_at 123360000 ∷ []
  pub truly : AreTrueVerdicts fast ats_judge as_declared 1000000 two_close
      (eligible_at 0 ∷ eligible_at 123347666 ∷ [])
  pub output : output_of (declared_clock 100 1) (committed_of (as_declared 0)) ≡ committed 100010000 12337
  pub conforms : ConformTo (committed 100010000 12337)
      (accepted_of 0 two_close (eligible_at 0 ∷ eligible_at 123347666 ∷ []))
  pub not_declared : ¬ ConformTo (committed 100000000 12336)
      (accepted_of 0 two_close (eligible_at 0 ∷ eligible_at 123347666 ∷ []))

-- the same two frames at the port behind, as it counts them
abbrev pub two_told : List Told
two_told =
    record { came = 0; told = 0; eligible = 0; bits = 12336 }
    ∷ record { came = 12336000; told = 123360000; eligible = 123347666; bits = 12336 }
    ∷ []

-- from 0 until the second is eligible both count, which is what the clock's output gives, and more than the scheduler's
-- own rate and burst give
pub record BothAreCounted : Type 0 where
  pub told : WereTold (declared_clock 100 1) fast (committed 100000000 12336) two_told
  pub both : bits_counted two_told 0 123360000 ≡ 24672
  pub by_output : PS_PER_SECOND * 24672 ≤ 100010000 * 123347666 + PS_PER_SECOND * 12337
  pub not_declared : ¬ (PS_PER_SECOND * 24672 ≤ 100000000 * 123347666 + PS_PER_SECOND * 12336)

-- two frames of a station that uses its whole rate, each eligible on its release; they arrive at a bridge 1500 ns later
abbrev pub crossing_at : ℕ → Crossing
crossing_at time = record { came = time; told = time; eligible = time; offer = offer_at (time + 1500000) }

abbrev pub two_crossings : List Crossing
two_crossings = crossing_at 0 ∷ crossing_at 123360000 ∷ []

-- by the slow clock each is eligible within its bound where the scheduler has what the clock asks
pub record SlowClock : Type 0 where
  pub station : ComeThrough ideal (λ t. t) (λ member. committed 100000000 12336) 1500000 two_crossings
  pub keeps : KeepsClock (declared_clock 100 1) slow
  pub scheduler : scheduler_for (declared_clock 100 1) (committed 100000000 12336) ≡ committed 100010002 12337
  pub room : HasRoom (declared_clock 100 1) as_asked 10 (λ member. committed 100000000 12336) 1500000 two_crossings
  pub verdicts : AreTrueVerdicts slow ats_judge as_asked 10 (crossing_offers two_crossings)
      (eligible_at 1500000 ∷ eligible_at 124860000 ∷ [])
  pub within : AllZip (IsEligibleWithin 1500000) two_crossings (eligible_at 1500000 ∷ eligible_at 124860000 ∷ [])

-- with the declared numbers in place of these the second frame is eligible 12,337 ps after its bound, however long it
-- may stay
pub record NotAsked : Type 0 where
  pub ruled : IsRuled (as_declared 0)
  pub verdicts : AreTrueVerdicts slow ats_judge as_declared 1000000 (crossing_offers two_crossings)
      (eligible_at 1500000 ∷ eligible_at 124872337 ∷ [])
  pub not_within : ¬ AllZip (IsEligibleWithin 1500000) two_crossings
      (eligible_at 1500000 ∷ eligible_at 124872337 ∷ [])

-- two frames of two members that a ticking clock tells the same time, of which the one that came later leaves first
abbrev pub overtaking : List Crossing
overtaking =
    record {
      came = 8003;
      told = 8000;
      eligible = 8003;
      offer = record { member = 0; arrival = 9003; octets = 1522 };
    }
    ∷ record {
      came = 8001;
      told = 8000;
      eligible = 8001;
      offer = record { member = 1; arrival = 9500; octets = 1522 };
    }
    ∷ []

-- the port may choose so, and the frames do not come in the order in which they were eligible; put back, they do
pub record OvertakenInATick : Type 0 where
  pub through : ComeThrough (declared_clock 0 8000) ticking (λ member. committed 100000000 12336) 2000 overtaking
  pub chosen : AllPairs IsChosen overtaking
  pub not_in_order : ¬ IsNonDecreasingBy (λ (x : Crossing). x.eligible) overtaking
  pub put_back : map (λ (x : Crossing). x.eligible) (put_back overtaking) ≡ 8001 ∷ 8001 ∷ []

-- a member with a burst that covers no frame of 1522 octets
abbrev pub too_narrow : ℕ → Declared
too_narrow member = declared_as 100000000 672 64 1522

-- a clock that is 5 ps ahead is ideal, and its group tells each time 5 ps later; but not where a burst covers no frame,
-- since buckets are full at 0 by each clock
pub record AheadOfTime : Type 0 where
  pub keeps : KeepsClock ideal (λ t. t + 5)
  pub told : ats_judge as_declared 1000000 two_close ≡ eligible_at 0 ∷ eligible_at 123360000 ∷ []
  pub later : ats_judge as_declared 1000000 (map (later_offer 5) two_close)
      ≡ eligible_at 5 ∷ eligible_at 123360005 ∷ []
  pub not_ruled : ¬ IsRuled (too_narrow 0)
  pub seen : ats_judge too_narrow 1000000 (offer_at 0 ∷ []) ≡ eligible_at 116640000 ∷ []
  pub seen_later : ats_judge too_narrow 1000000 (map (later_offer 5) (offer_at 0 ∷ [])) ≡ eligible_at 116640000 ∷ []
