use Rattle.std.specs.Prelude.{◌≡◌, ℕ, ◌+◌, ◌*◌, ◌≤◌, ◌↔◌, max, pos, ◌-ℤ◌, List, [], ◌∷◌, ◌++◌, fold}
use Rattle.std.specs.List.Sorted.{IsNonDecreasing}
use Rattle.ats_num.specs.declared.time.TheConstants.{PS_PER_SECOND}
use Rattle.ats_num.specs.declared.time.Ps.{Ps}
use Rattle.ats_num.specs.Division.{ceiling}
use Rattle.ats_num.specs.Wire.{bits_of}
use Rattle.ats_bucket.specs.Conforming.{Frame, times_of, Conforms}
use Rattle.ats_streams.specs.declared.traffic.Declared.{Declared}
use Rattle.ats_group.specs.declared.verdict.Verdict.{Verdict}
use Rattle.ats_group.specs.declared.verdict.Verdict.TheVariants.{Eligible, Late}
use Rattle.ats_group.specs.Group.{Offer, first, judged, verdicts_of, state_after}
use Rattle.ats_streams.specs.Traffic.{IsRuled}
use Rattle.ats_group_law.specs.Windows.{ConformsByWindows}
use Rattle.ats_group_law.specs.Accepted.{accepted, accepted_of}
use Rattle.ats_group_law.specs.Full.{full_first, full_verdicts, full_state_after}

-- frames conform from place to place exactly where they conform by windows of time
abbrev pub ConformingByWindows : Type 0
ConformingByWindows = (rate burst : ℕ) (frames : List Frame)
    → Conforms rate burst frames ↔ ConformsByWindows rate burst frames

-- the eligibility time without a bucket: the least time at which the frame has arrived, that is not before the group
-- eligibility time, and with which these frames, followed by this one, conform
pub record IsLeastConforming (rate burst : ℕ) (frames : List Frame) (group arrival bits eligible : ℕ) : Type 0 where
  pub arrived : arrival ≤ eligible
  pub after_group : group ≤ eligible
  pub conforms : Conforms rate burst (frames ++ record { at = eligible; bits = bits } ∷ [])
  pub least : (k : ℕ) → arrival ≤ k → group ≤ k → Conforms rate burst (frames ++ record { at = k; bits = bits } ∷ [])
      → eligible ≤ k

-- the accepted frames of a group that takes these offers
abbrev pub passed : (ℕ → Declared) → ℕ → List Offer → List Frame
passed declared residence_ns offers = accepted offers (verdicts_of declared residence_ns (first declared) offers)

-- those of one member
abbrev pub passed_of : (ℕ → Declared) → ℕ → List Offer → ℕ → List Frame
passed_of declared residence_ns offers member =
    accepted_of member offers (verdicts_of declared residence_ns (first declared) offers)

-- the group eligibility time after these offers, and the verdict on the next one
abbrev pub group_time : (ℕ → Declared) → ℕ → List Offer → ℕ
group_time declared residence_ns offers = (state_after declared residence_ns (first declared) offers).time

abbrev pub next_verdict : (ℕ → Declared) → ℕ → List Offer → Offer → Verdict
next_verdict declared residence_ns offers offer =
    judged declared residence_ns (state_after declared residence_ns (first declared) offers) offer

-- this is the least time, not before the offer's arrival or the group time, with which what the group accepted of the
-- member, followed by this offer, conforms
abbrev pub IsLeastFor : (ℕ → Declared) → ℕ → List Offer → Offer → ℕ → Type 0
IsLeastFor declared residence_ns offers offer eligible =
    IsLeastConforming (declared offer.member).rate (declared offer.member).burst_bits
    (passed_of declared residence_ns offers offer.member) (group_time declared residence_ns offers) offer.arrival
    (bits_of offer.octets) eligible

-- whatever was offered before, an accepted frame's eligibility time is that least time
abbrev pub EligibilityIsLeast : Type 0
EligibilityIsLeast = (declared : ℕ → Declared) (residence_ns : ℕ) (offers : List Offer) (offer : Offer) (e : Ps)
    → IsRuled (declared offer.member) → next_verdict declared residence_ns offers offer ≡ Eligible e
    → IsLeastFor declared residence_ns offers offer e.0

-- so is the time that a late frame's verdict tells
abbrev pub LateTimeIsLeast : Type 0
LateTimeIsLeast = (declared : ℕ → Declared) (residence_ns : ℕ) (offers : List Offer) (offer : Offer) (e : Ps)
    → IsRuled (declared offer.member) → next_verdict declared residence_ns offers offer ≡ Late e
    → IsLeastFor declared residence_ns offers offer e.0

-- and it is no later than the arrival or, if that is later, than the time in which the rate gives the frame's bits,
-- counted from the group eligibility time
abbrev pub LateTimeIsSoon : Type 0
LateTimeIsSoon = (declared : ℕ → Declared) (residence_ns : ℕ) (offers : List Offer) (offer : Offer) (e : Ps)
    → IsRuled (declared offer.member) → next_verdict declared residence_ns offers offer ≡ Late e
    → e.0 ≤ max offer.arrival (group_time declared residence_ns offers
    + ceiling (PS_PER_SECOND * bits_of offer.octets) (declared offer.member).rate)

-- the group eligibility time is the time of the frame that the group accepted last, or 0
abbrev pub GroupTimeIsLast : Type 0
GroupTimeIsLast = (declared : ℕ → Declared) (residence_ns : ℕ) (offers : List Offer) → group_time declared residence_ns
    offers ≡ fold (λ (time : ℕ) (f : Frame). f.at) 0 (passed declared residence_ns offers)

-- whatever is offered, what the group accepts of a member conforms to its rate and burst
abbrev pub OutputConforms : Type 0
OutputConforms = (declared : ℕ → Declared) (residence_ns : ℕ) (offers : List Offer) (member : ℕ)
    → IsRuled (declared member)
    → Conforms (declared member).rate (declared member).burst_bits (passed_of declared residence_ns offers member)

-- the same by windows of time
abbrev pub OutputConformsByWindows : Type 0
OutputConformsByWindows = (declared : ℕ → Declared) (residence_ns : ℕ) (offers : List Offer) (member : ℕ)
    → IsRuled (declared member) → ConformsByWindows (declared member).rate (declared member).burst_bits
    (passed_of declared residence_ns offers member)

-- whatever is offered, and whatever is declared, the times of all that the group accepts do not descend
abbrev pub OutputAscends : Type 0
OutputAscends = (declared : ℕ → Declared) (residence_ns : ℕ) (offers : List Offer)
    → IsNonDecreasing (times_of (passed declared residence_ns offers))

-- the same verdicts and states come from bucket-full times, which are never negative
pub record IsFullFold (declared : ℕ → Declared) (residence_ns : ℕ) (offers : List Offer) : Type 0 where
  pub verdicts : verdicts_of declared residence_ns (first declared) offers
      ≡ full_verdicts declared residence_ns full_first offers
  pub time : (state_after declared residence_ns (first declared) offers).time
      ≡ (full_state_after declared residence_ns full_first offers).time
  pub empties : (member : ℕ) → (state_after declared residence_ns (first declared) offers).empty member
      ≡ pos ((full_state_after declared residence_ns full_first offers).full member) -ℤ pos
      (PS_PER_SECOND * (declared member).burst_bits)

abbrev pub FoldIsFullFold : Type 0
FoldIsFullFold = (declared : ℕ → Declared) (residence_ns : ℕ) (offers : List Offer)
    → IsFullFold declared residence_ns offers
