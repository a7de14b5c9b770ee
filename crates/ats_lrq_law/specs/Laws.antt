use Rattle.std.specs.Prelude.{ℕ, ◌<◌, List, length}
use Rattle.std.specs.List.Sorted.{IsNonDecreasing}
use Rattle.ats_num.specs.Wire.{bits_of}
use Rattle.ats_bucket.specs.Conforming.{Frame, times_of, Conforms}
use Rattle.ats_streams.specs.Traffic.{IsRuled}
use Rattle.ats_streams.specs.declared.traffic.Declared.{Declared}
use Rattle.ats_group.specs.declared.member.Member.{Member}
use Rattle.ats_group.specs.Group.{Offer}
use Rattle.ats_group_law.specs.Accepted.{accepted, accepted_of}
use Rattle.ats_group_law.specs.GroupsLaws.{IsUse}
use Rattle.ats_group_law.specs.Regulator.{IsRegulator, IsRule, passed_by}
use Rattle.ats_lrq.specs.GroupsState.{declared_of, group_of, opened}
use Rattle.ats_lrq.specs.Judge.{lrq_judge, spacing_rule}
use Rattle.ats_lrq.specs.Laws.{offers_to, verdicts_in}

-- whatever is offered, what a group accepts of a member conforms to its rate and the wire bits of its longest frame
abbrev pub LrqOutputConforms : Type 0
LrqOutputConforms = (declared : ℕ → Declared) (residence_ns : ℕ) (offers : List Offer) (member : ℕ)
    → IsRuled (declared member) → Conforms (declared member).rate (bits_of (declared member).max_octets)
    (passed_by lrq_judge declared residence_ns offers member)

-- what its group accepted of a member, of groups that are opened with these residences and members
abbrev pub passed_of_member : List ℕ → List Member → List Offer → ℕ → List Frame
passed_of_member residences_ns members offers member =
    let groups = opened residences_ns members in
    accepted_of member (offers_to groups (group_of groups member) offers)
    (verdicts_in groups (group_of groups member) offers)

-- it conforms so, whatever the members offer
abbrev pub GroupsOutputConforms : Type 0
GroupsOutputConforms = (residences_ns : List ℕ) (members : List Member) (offers : List Offer) (member : ℕ)
    → IsUse residences_ns members offers → member < length members
    → (let declared = declared_of (opened residences_ns members) member in
    Conforms declared.rate (bits_of declared.max_octets) (passed_of_member residences_ns members offers member))

-- whatever is offered, and whatever is declared, the times of all that a group accepts do not descend
abbrev pub LrqOutputAscends : Type 0
LrqOutputAscends = (declared : ℕ → Declared) (residence_ns : ℕ) (offers : List Offer)
    → IsNonDecreasing (times_of (accepted offers (lrq_judge declared residence_ns offers)))

-- what one of these groups accepted, of all its members
abbrev pub passed_in : List ℕ → List Member → List Offer → ℕ → List Frame
passed_in residences_ns members offers group =
    let groups = opened residences_ns members in
    accepted (offers_to groups group offers) (verdicts_in groups group offers)

-- its times do not descend
abbrev pub GroupsOutputAscends : Type 0
GroupsOutputAscends = (residences_ns : List ℕ) (members : List Member) (offers : List Offer) (group : ℕ)
    → IsUse residences_ns members offers → IsNonDecreasing (times_of (passed_in residences_ns members offers group))

-- spacing is a rule that talkers may be asked to keep, and length-rate-quotient regulators regulate by it, whatever
-- bursts are declared
pub record LrqIsRegulator : Type 0 where
  pub rule : IsRule spacing_rule
  pub regulator : IsRegulator lrq_judge spacing_rule
