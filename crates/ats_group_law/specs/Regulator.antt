use Rattle.std.specs.Prelude.{◌≡◌, ℕ, ◌+◌, ◌*◌, ◌≤◌, List, IsTrue, All, sum_by}
use Rattle.std.specs.List.Sorted.{IsNonDecreasing, IsNonDecreasingBy}
use Rattle.ats_num.specs.declared.time.TheConstants.{PS_PER_NS}
use Rattle.ats_num.specs.Wire.{bits_of}
use Rattle.std.specs.List.{AllZip}
use Rattle.ats_bucket.specs.Conforming.{Frame, times_of, Conforms}
use Rattle.ats_streams.specs.declared.traffic.Declared.{Declared}
use Rattle.ats_group.specs.declared.verdict.Verdict.{Verdict}
use Rattle.ats_group.specs.Group.{Offer}
use Rattle.ats_streams.specs.Traffic.{IsRuled, is_declared_size}
use Rattle.ats_group.specs.Judge.{OnEligible, Judge, ats_judge, bucket_rule}
use Rattle.ats_group_law.specs.Accepted.{accepted_of}
use Rattle.ats_group_law.specs.Shaping.{Passage, offers_of, frames_before, IsEligibleAgain}

-- a frame is eligible only where its member declares its size
abbrev pub IsEligibleSized : (ℕ → Declared) → Offer → Verdict → Type 0
IsEligibleSized declared offer verdict =
    OnEligible verdict (λ e. IsTrue (is_declared_size (declared offer.member) offer.octets))

-- a frame is eligible only when it has arrived
abbrev pub IsEligibleArrived : Offer → Verdict → Type 0
IsEligibleArrived offer verdict = OnEligible verdict (λ e. offer.arrival ≤ e)

-- what a judge lets through of a member
abbrev pub passed_by : Judge → (ℕ → Declared) → ℕ → List Offer → ℕ → List Frame
passed_by judge declared residence_ns offers member = accepted_of member offers (judge declared residence_ns offers)

-- these frames are no more than the others: whatever frames weigh, together they weigh no more
abbrev pub AreNoMore : List Frame → List Frame → Type 0
AreNoMore frames others = (weight : Frame → ℕ) → sum_by weight frames ≤ sum_by weight others

-- the second declares the same sizes, and neither a lower rate nor a smaller burst
pub record IsNoLess (d e : Declared) : Type 0 where
  pub rate : d.rate ≤ e.rate
  pub burst : d.burst_bits ≤ e.burst_bits
  pub least : d.min_octets ≡ e.min_octets
  pub most : d.max_octets ≡ e.max_octets

-- a rule that talkers may be asked to keep: it stays where frames are left out, or put in another order of their times,
-- or where more is declared; and frames of declared sizes that keep it conform to the declared rate and burst
pub record IsRule (rule : Declared → List Frame → Type 0) : Type 0 where
  pub fewer : (d : Declared) (frames others : List Frame) → rule d others → IsNonDecreasing (times_of frames)
      → AreNoMore frames others → rule d frames
  pub wider : (d e : Declared) (frames : List Frame) → IsNoLess d e → rule d frames → rule e frames
  pub conforms : (d : Declared) (frames : List Frame) → IsRuled d
      → All (λ (f : Frame). f.bits ≤ bits_of d.max_octets) frames → rule d frames → Conforms d.rate d.burst_bits frames

-- what comes to a group kept the rule at the hop before, member by member, and its order from there; each frame arrives
-- at most `bound` picoseconds after it was eligible there, and may stay in the group until then
pub record IsDelayedBy (rule : Declared → List Frame → Type 0) (declared : ℕ → Declared) (residence_ns bound : ℕ)
    (passages : List Passage) : Type 0 where
  pub ruled : All (λ (p : Passage). IsRuled (declared p.offer.member)) passages
  pub sized : All (λ (p : Passage). IsTrue (is_declared_size (declared p.offer.member) p.offer.octets)) passages
  pub in_order : IsNonDecreasingBy (λ (p : Passage). p.since) passages
  pub kept : All (λ (p : Passage). rule (declared p.offer.member) (frames_before p.offer.member passages)) passages
  pub arrives : All (λ (p : Passage). p.offer.arrival ≤ p.since + bound) passages
  pub may_stay : All (λ (p : Passage). p.since + bound ≤ p.offer.arrival + PS_PER_NS * residence_ns) passages

-- a judge regulates by a rule, whatever its members declare, whatever is offered to it and whatever the residence time
pub record IsRegulator (judge : Judge) (rule : Declared → List Frame → Type 0) : Type 0 where
  -- it lets frames through at declared sizes only
  pub sized : (declared : ℕ → Declared) (residence_ns : ℕ) (offers : List Offer)
      → AllZip (IsEligibleSized declared) offers (judge declared residence_ns offers)
  -- each only when it has arrived
  pub arrived : (declared : ℕ → Declared) (residence_ns : ℕ) (offers : List Offer)
      → AllZip IsEligibleArrived offers (judge declared residence_ns offers)
  -- what it lets through of a member keeps the rule
  pub keeps : (declared : ℕ → Declared) (residence_ns : ℕ) (offers : List Offer) (member : ℕ)
      → IsRuled (declared member) → rule (declared member) (passed_by judge declared residence_ns offers member)
  -- and shaping is free: what kept the rule at the hop before, and may stay until the bound of its way here, is
  -- eligible within it
  pub free : (declared : ℕ → Declared) (residence_ns bound : ℕ) (passages : List Passage)
      → IsDelayedBy rule declared residence_ns bound passages
      → AllZip (IsEligibleAgain bound) passages (judge declared residence_ns (offers_of passages))

-- so does Asynchronous Traffic Shaping by token buckets
pub record AtsIsRegulator : Type 0 where
  pub rule : IsRule bucket_rule
  pub regulator : IsRegulator ats_judge bucket_rule
