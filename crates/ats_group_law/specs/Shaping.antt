use Rattle.std.specs.Prelude.{◌≡◌, ℕ, ◌+◌, ◌*◌, ◌≤◌, true, ◌==◌, List, map, filter, All}
use Rattle.std.specs.List.{AllZip}
use Rattle.std.specs.List.Sorted.{IsNonDecreasingBy}
use Rattle.ats_num.specs.declared.time.TheConstants.{PS_PER_NS}
use Rattle.ats_num.specs.declared.time.Ps.{Ps}
use Rattle.ats_num.specs.Wire.{bits_of}
use Rattle.ats_bucket.specs.Conforming.{Frame}
use Rattle.ats_streams.specs.declared.traffic.Declared.{Declared}
use Rattle.ats_group.specs.declared.verdict.Verdict.{Verdict}
use Rattle.ats_group.specs.declared.verdict.Verdict.TheVariants.{Eligible}
use Rattle.ats_group.specs.Group.{Offer, first, verdicts_of}
use Rattle.ats_streams.specs.Traffic.{IsRuled, is_declared_size}
use Rattle.ats_group_law.specs.Windows.{KeepsWindows}

-- a frame that comes to a group from the hop before: the time at which it was eligible there, and the offer
pub record Passage : Type 0 where
  pub since : ℕ
  pub offer : Offer

abbrev pub offers_of : List Passage → List Offer
offers_of passages = map (λ (p : Passage). p.offer) passages

-- the frame as it was eligible at the hop before
abbrev pub frame_before : Passage → Frame
frame_before passage = record { at = passage.since; bits = bits_of passage.offer.octets }

-- those of a member
abbrev pub frames_before : ℕ → List Passage → List Frame
frames_before member passages = map frame_before (filter (λ (p : Passage). p.offer.member == member) passages)

-- what comes to a group conformed at the hop before, member by member, and kept its order from there; each frame
-- arrives at most `bound` picoseconds after it was eligible there, and may stay in the group until then
pub record IsDelayed (declared : ℕ → Declared) (residence_ns bound : ℕ) (passages : List Passage) : Type 0 where
  pub ruled : All (λ (p : Passage). IsRuled (declared p.offer.member)) passages
  pub sized : All (λ (p : Passage). is_declared_size (declared p.offer.member) p.offer.octets ≡ true) passages
  pub in_order : IsNonDecreasingBy (λ (p : Passage). p.since) passages
  pub conformed : All (λ (p : Passage). KeepsWindows (declared p.offer.member).rate (declared p.offer.member).burst_bits
      (frames_before p.offer.member passages)) passages
  pub arrives : All (λ (p : Passage). p.offer.arrival ≤ p.since + bound) passages
  pub may_stay : All (λ (p : Passage). p.since + bound ≤ p.offer.arrival + PS_PER_NS * residence_ns) passages

-- the frame is eligible again, at most `bound` picoseconds after it was eligible at the hop before
abbrev pub IsEligibleAgain : ℕ → Passage → Verdict → Type 0
IsEligibleAgain bound passage verdict = (e : Ps) × (verdict ≡ Eligible e) × (e.0 ≤ passage.since + bound)

-- a group adds nothing to the greatest delay: each frame is eligible again within the bound of its way there
abbrev pub ShapingIsFree : Type 0
ShapingIsFree = (declared : ℕ → Declared) (residence_ns bound : ℕ) (passages : List Passage)
    → IsDelayed declared residence_ns bound passages
    → AllZip (IsEligibleAgain bound) passages (verdicts_of declared residence_ns (first declared) (offers_of passages))
