use Rattle.std.specs.Prelude.{◌≡◌, ℕ, ◌-◌, ◌<◌, ◌≤◌, List, map, zip}
use Rattle.std.specs.List.{AllZip}
use Rattle.std.specs.List.Sorted.{IsNonDecreasingBy}
use Rattle.ats_num.specs.declared.time.Ps.{Ps}
use Rattle.ats_streams.specs.declared.traffic.Declared.{Declared}
use Rattle.ats_streams.specs.Traffic.{IsRuled}
use Rattle.ats_bucket.specs.Conforming.{Frame}
use Rattle.ats_group.specs.declared.verdict.Verdict.{Verdict}
use Rattle.ats_group.specs.declared.verdict.Verdict.TheVariants.{Eligible, Late, Size}
use Rattle.ats_group.specs.Group.{Offer}
use Rattle.ats_group.specs.Judge.{Judge, bucket_rule}
use Rattle.ats_group_law.specs.Accepted.{accepted_of}
use Rattle.ats_group_law.specs.Regulator.{IsRegulator}
use Rattle.ats_clock.specs.declared.clock.TheConstants.{MILLION}
use Rattle.ats_clock.specs.declared.committed.Committed.{Committed}
use Rattle.ats_clock.specs.Clock.{DeclaredClock, KeepsClock}
use Rattle.ats_clock.specs.Rates.{committed, output_of}
use Rattle.ats_clock_law.specs.Retiming.{ConformTo}

-- the true eligibility time of a frame: the least, not before its arrival, at which the clock shows the time that the
-- frame's verdict told
pub record IsTrueEligibility (shows : ℕ → ℕ) (arrival told eligible : ℕ) : Type 0 where
  pub arrived : arrival ≤ eligible
  pub shown : told ≤ shows eligible
  pub least : (t : ℕ) → arrival ≤ t → told ≤ shows t → eligible ≤ t

-- there is one where the clock shows that time or more once after the arrival, and each clock of a deviation below a
-- million does
abbrev pub TrueEligibilityIs : Type 0
TrueEligibilityIs = (shows : ℕ → ℕ) (arrival told t : ℕ) → arrival ≤ t → told ≤ shows t
    → (eligible : ℕ) × IsTrueEligibility shows arrival told eligible

abbrev pub EachTimeIsShown : Type 0
EachTimeIsShown = (clock : DeclaredClock) (shows : ℕ → ℕ) (arrival told : ℕ) → KeepsClock clock shows
    → clock.deviation_ppm < MILLION → (t : ℕ) × (arrival ≤ t) × (told ≤ shows t)

-- a frame that is eligible on its arrival was told no less than the clock shows then; for any other the clock showed
-- less one picosecond before
pub record IsJustShown (shows : ℕ → ℕ) (arrival told eligible : ℕ) : Type 0 where
  pub on_arrival : eligible ≡ arrival → shows eligible ≤ told
  pub later : arrival < eligible → shows (eligible - 1) < told

abbrev pub EligibleIsJustShown : Type 0
EligibleIsJustShown = (shows : ℕ → ℕ) (arrival told eligible : ℕ) → shows arrival ≤ told
    → IsTrueEligibility shows arrival told eligible → IsJustShown shows arrival told eligible

-- a frame that is told an earlier time by the same clock is eligible no later
abbrev pub OrderIsKept : Type 0
OrderIsKept = (clock : DeclaredClock) (shows : ℕ → ℕ) (arrival told eligible other_arrival other_told other : ℕ)
    → KeepsClock clock shows → shows arrival ≤ told → IsTrueEligibility shows arrival told eligible
    → IsTrueEligibility shows other_arrival other_told other → told < other_told → eligible ≤ other

-- an offer, told with the true time of its arrival, as a bridge with this clock takes it
abbrev pub stamped : (ℕ → ℕ) → Offer → Offer
stamped shows offer = record offer { arrival = shows offer.arrival }

abbrev pub stamped_offers : (ℕ → ℕ) → List Offer → List Offer
stamped_offers shows offers = map (stamped shows) offers

-- a verdict in true time, of one by this clock: its time is a true eligibility time
abbrev pub IsTrueVerdict : (ℕ → ℕ) → Offer → Verdict → Verdict → Type 0
IsTrueVerdict shows offer (Eligible told) verdict =
    (e : Ps) × (verdict ≡ Eligible e) × IsTrueEligibility shows offer.arrival told.0 e.0
IsTrueVerdict shows offer (Late told) verdict =
    (e : Ps) × (verdict ≡ Late e) × IsTrueEligibility shows offer.arrival told.0 e.0
IsTrueVerdict shows offer Size verdict = verdict ≡ Size

-- the verdicts in true time of a group that judges by this clock
abbrev pub AreTrueVerdicts : (ℕ → ℕ) → Judge → (ℕ → Declared) → ℕ → List Offer → List Verdict → Type 0
AreTrueVerdicts shows judge declared residence_ns offers verdicts =
    AllZip (λ (judged : Offer × Verdict) (verdict : Verdict). IsTrueVerdict shows judged.0 judged.1 verdict)
    (zip offers (judge declared residence_ns (stamped_offers shows offers))) verdicts

-- there are such, whatever is offered
abbrev pub TrueVerdictsAre : Type 0
TrueVerdictsAre = (clock : DeclaredClock) (shows : ℕ → ℕ) (judge : Judge) (declared : ℕ → Declared) (residence_ns : ℕ)
    (offers : List Offer) → KeepsClock clock shows → clock.deviation_ppm < MILLION
    → (verdicts : List Verdict) × AreTrueVerdicts shows judge declared residence_ns offers verdicts

-- the rate and the burst that are declared
abbrev pub committed_of : Declared → Committed
committed_of declared = committed declared.rate declared.burst_bits

-- whatever is offered to a group that judges by a clock and regulates by this rule, what it lets through of a member
-- conforms, in true time, to what the declared rate and burst become
abbrev pub OutputConformsBy : (Declared → List Frame → Type 0) → Type 0
OutputConformsBy rule = (clock : DeclaredClock) (shows : ℕ → ℕ) (judge : Judge) (declared : ℕ → Declared)
    (residence_ns : ℕ) (offers : List Offer) (verdicts : List Verdict) (member : ℕ) → KeepsClock clock shows
    → IsRegulator judge rule → IsRuled (declared member) → IsNonDecreasingBy (λ (o : Offer). o.arrival) offers
    → AreTrueVerdicts shows judge declared residence_ns offers verdicts
    → ConformTo (output_of clock (committed_of (declared member))) (accepted_of member offers verdicts)

-- so by token buckets
abbrev pub TrueOutputConforms : Type 0
TrueOutputConforms = OutputConformsBy bucket_rule
