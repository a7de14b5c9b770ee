use Rattle.std.specs.Prelude.{◌≡◌, ℕ, ◌+◌, ◌-◌, ◌*◌, ◌<◌, ◌≤◌, min, ◌==◌, IsTrue, List, [], ◌∷◌, map}
use Rattle.std.specs.Prelude.{filter, fold, All, AllPairs}
use Rattle.std.specs.List.{AllZip}
use Rattle.std.specs.List.Sorted.{IsNonDecreasingBy}
use Rattle.ats_num.specs.declared.time.TheConstants.{PS_PER_NS}
use Rattle.ats_num.specs.declared.time.Ps.{Ps}
use Rattle.ats_num.specs.Wire.{bits_of}
use Rattle.ats_streams.specs.declared.traffic.Declared.{Declared}
use Rattle.ats_streams.specs.Traffic.{IsRuled, is_declared_size}
use Rattle.ats_bucket.specs.Conforming.{Frame}
use Rattle.ats_group.specs.declared.verdict.Verdict.{Verdict}
use Rattle.ats_group.specs.declared.verdict.Verdict.TheVariants.{Eligible}
use Rattle.ats_group.specs.Group.{Offer}
use Rattle.ats_group.specs.Judge.{Judge, bucket_rule}
use Rattle.ats_group_law.specs.Regulator.{IsDelayedBy, IsRegulator}
use Rattle.ats_group_law.specs.Shaping.{Passage}
use Rattle.ats_clock.specs.declared.clock.TheConstants.{MILLION}
use Rattle.ats_clock.specs.declared.committed.Committed.{Committed}
use Rattle.ats_clock.specs.Clock.{DeclaredClock, KeepsClock}
use Rattle.ats_clock.specs.Laws.{IsNoGreater}
use Rattle.ats_clock.specs.Rates.{output_of, scheduler_for}
use Rattle.ats_clock_law.specs.Retiming.{ConformTo}
use Rattle.ats_clock_law.specs.TrueTime.{AreTrueVerdicts, IsTrueEligibility, committed_of, stamped}

-- a frame that comes to a bridge from the hop before: when it had arrived there, the time that it was told there by
-- that hop's clock, when it was eligible there, and its offer here. All times are true ones but the told one
pub record Crossing : Type 0 where
  pub came : ℕ
  pub told : ℕ
  pub eligible : ℕ
  pub offer : Offer

abbrev pub crossing_offers : List Crossing → List Offer
crossing_offers crossings = map (λ (x : Crossing). x.offer) crossings

-- those of a member
abbrev pub crossings_of : ℕ → List Crossing → List Crossing
crossings_of member crossings = filter (λ (x : Crossing). x.offer.member == member) crossings

-- the frames of a member at the hop before, at the times that they were told, and when they were eligible
abbrev pub told_frames : ℕ → List Crossing → List Frame
told_frames member crossings =
    map (λ (x : Crossing). record { at = x.told; bits = bits_of x.offer.octets }) (crossings_of member crossings)

abbrev pub eligible_frames : ℕ → List Crossing → List Frame
eligible_frames member crossings =
    map (λ (x : Crossing). record { at = x.eligible; bits = bits_of x.offer.octets }) (crossings_of member crossings)

-- the least time at which a frame or one of those behind it was eligible
abbrev pub least_eligible : Crossing → List Crossing → ℕ
least_eligible x behind = fold (λ (t : ℕ) (y : Crossing). min t y.eligible) x.eligible behind

-- the frames, each put back to that time
abbrev pub put_back : List Crossing → List Crossing
put_back [] = []
put_back (x ∷ behind) = record x { eligible = least_eligible x behind } ∷ put_back behind

-- a port that had both to choose from sent first the frame that was told the earlier time: where the one behind was
-- eligible no later, it was told no earlier time
abbrev pub IsChosen : Crossing → Crossing → Type 0
IsChosen x behind = behind.eligible ≤ x.eligible → x.told ≤ behind.told

-- so frames of one class leave in the order of the times that they were told
abbrev pub LeaveInOrder : Type 0
LeaveInOrder = (clock : DeclaredClock) (shows : ℕ → ℕ) (crossings : List Crossing) → KeepsClock clock shows
    → All (λ (x : Crossing). shows x.came ≤ x.told) crossings
    → All (λ (x : Crossing). IsTrueEligibility shows x.came x.told x.eligible) crossings → AllPairs IsChosen crossings
    → IsNonDecreasingBy (λ (x : Crossing). x.told) crossings

-- frames of one class come through one port of a hop that goes by this clock, in the order of the times that they were
-- told there; each member's conform, by that clock, to the rate and burst of its scheduler there; and each
-- arrives at most `bound` picoseconds after it was eligible there
pub record ComeThrough (clock : DeclaredClock) (shows : ℕ → ℕ) (scheduled : ℕ → Committed) (bound : ℕ)
    (crossings : List Crossing) : Type 0 where
  pub keeps : KeepsClock clock shows
  pub told : All (λ (x : Crossing). shows x.came ≤ x.told) crossings
  pub eligible : All (λ (x : Crossing). IsTrueEligibility shows x.came x.told x.eligible) crossings
  pub in_order : IsNonDecreasingBy (λ (x : Crossing). x.told) crossings
  pub conformed : All (λ (x : Crossing).
      ConformTo (scheduled x.offer.member) (told_frames x.offer.member crossings)) crossings
  pub arrive_in_order : IsNonDecreasingBy (λ (x : Crossing). x.offer.arrival) crossings
  pub arrives : All (λ (x : Crossing). x.offer.arrival ≤ x.eligible + bound) crossings

-- frames that were eligible at the hop before in the order in which they come, and conformed there in true time to this
-- rate and burst, each member's; and each arrives at most `bound` picoseconds later
pub record ComeInOrder (arriving : ℕ → Committed) (bound : ℕ) (crossings : List Crossing) : Type 0 where
  pub in_order : IsNonDecreasingBy (λ (x : Crossing). x.eligible) crossings
  pub conformed : All (λ (x : Crossing).
      ConformTo (arriving x.offer.member) (eligible_frames x.offer.member crossings)) crossings
  pub arrives : All (λ (x : Crossing). x.offer.arrival ≤ x.eligible + bound) crossings

-- put back, frames that come through a port were eligible no later than they were, come in order, and conform to what
-- that hop's clock makes of rates and bursts
pub record ArePutBack (clock : DeclaredClock) (scheduled : ℕ → Committed) (bound : ℕ) (crossings : List Crossing)
    : Type 0 where
  pub no_later : AllZip (λ (x y : Crossing). y.eligible ≤ x.eligible) crossings (put_back crossings)
  pub come : ComeInOrder (λ member. output_of clock (scheduled member)) bound (put_back crossings)

abbrev pub PutBackComeInOrder : Type 0
PutBackComeInOrder = (clock : DeclaredClock) (shows : ℕ → ℕ) (scheduled : ℕ → Committed) (bound : ℕ)
    (crossings : List Crossing) → ComeThrough clock shows scheduled bound crossings
    → ArePutBack clock scheduled bound crossings

-- a bridge that goes by this clock has schedulers for what arrives, and a residence for its way: the frames are of
-- declared sizes, each scheduler has what its clock makes of the member's rate and burst or more, and the residence is
-- enough from the arrival to the bound even by a fast clock
pub record HasRoom (clock : DeclaredClock) (declared : ℕ → Declared) (residence_ns : ℕ) (arriving : ℕ → Committed)
    (bound : ℕ) (crossings : List Crossing) : Type 0 where
  pub deviation : clock.deviation_ppm < MILLION
  pub ruled : All (λ (x : Crossing). IsRuled (declared x.offer.member)) crossings
  pub sized : All (λ (x : Crossing). IsTrue (is_declared_size (declared x.offer.member) x.offer.octets)) crossings
  pub scheduled : All (λ (x : Crossing). IsNoGreater (scheduler_for clock (arriving x.offer.member))
      (committed_of (declared x.offer.member))) crossings
  pub may_stay : All (λ (x : Crossing).
      (MILLION + clock.deviation_ppm) * (x.eligible + bound - x.offer.arrival) + MILLION * clock.step_ps
      ≤ MILLION * (PS_PER_NS * residence_ns)) crossings

-- the frames by this bridge's clock: as if each was eligible at the hop before when the bound of its way has passed
abbrev pub passages_by : (ℕ → ℕ) → ℕ → List Crossing → List Passage
passages_by shows bound crossings =
    map (λ (x : Crossing). record { since = shows (x.eligible + bound); offer = stamped shows x.offer }) crossings

-- by its clock they are delayed by nothing
abbrev pub DelayedByNothing : Type 0
DelayedByNothing = (clock : DeclaredClock) (shows : ℕ → ℕ) (declared : ℕ → Declared) (residence_ns : ℕ)
    (arriving : ℕ → Committed) (bound : ℕ) (crossings : List Crossing) → KeepsClock clock shows
    → ComeInOrder arriving bound crossings → HasRoom clock declared residence_ns arriving bound crossings
    → IsDelayedBy bucket_rule declared residence_ns 0 (passages_by shows bound crossings)

-- the frame is eligible here, at most `bound` picoseconds after it was eligible at the hop before, in true time
abbrev pub IsEligibleWithin : ℕ → Crossing → Verdict → Type 0
IsEligibleWithin bound x verdict = (e : Ps) × (verdict ≡ Eligible e) × (e.0 ≤ x.eligible + bound)

-- so shaping is free by clocks that differ: the group adds nothing to the greatest delay, in true time
abbrev pub ShapingIsFreeByClocks : Type 0
ShapingIsFreeByClocks = (before clock : DeclaredClock) (shows_before shows : ℕ → ℕ) (scheduled : ℕ → Committed)
    (judge : Judge) (declared : ℕ → Declared) (residence_ns bound : ℕ) (crossings : List Crossing)
    (verdicts : List Verdict) → ComeThrough before shows_before scheduled bound crossings → KeepsClock clock shows
    → HasRoom clock declared residence_ns (λ member. output_of before (scheduled member)) bound crossings
    → IsRegulator judge bucket_rule
    → AreTrueVerdicts shows judge declared residence_ns (crossing_offers crossings) verdicts
    → AllZip (IsEligibleWithin bound) crossings verdicts
