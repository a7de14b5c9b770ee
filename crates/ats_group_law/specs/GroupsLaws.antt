use Rattle.std.specs.Prelude.{◌≡◌, ℕ, ◌<◌, List, length, All}
use Rattle.std.specs.List.Sorted.{IsNonDecreasing}
use Rattle.ats_num.specs.declared.time.Ps.{Ps}
use Rattle.ats_num.specs.Wire.{bits_of}
use Rattle.ats_bucket.specs.Conforming.{Frame, times_of, Conforms}
use Rattle.ats_group.specs.declared.member.Member.{Member}
use Rattle.ats_group.specs.declared.verdict.Verdict.TheVariants.{Eligible}
use Rattle.ats_group.specs.Group.{Offer}
use Rattle.ats_group.specs.GroupsState.{AreMembers, declared_at, group_of, opened, time_at}
use Rattle.ats_group.specs.Laws.{verdict_at, groups_last, verdicts_in, offers_to}
use Rattle.ats_group_law.specs.Accepted.{accepted, accepted_of}
use Rattle.ats_group_law.specs.Laws.{IsLeastConforming}

-- groups are opened with these maximum residence times and members, and take frames of members one after another
pub record IsUse (residences_ns : List ℕ) (members : List Member) (offers : List Offer) : Type 0 where
  pub lawful : AreMembers (length residences_ns) members
  pub known : All (λ (o : Offer). o.member < length members) offers

-- the group of a member of these
abbrev pub group_among : List ℕ → List Member → ℕ → ℕ
group_among residences_ns members member = group_of (opened residences_ns members) member

-- what one of these groups accepted
abbrev pub passed_in : List ℕ → List Member → List Offer → ℕ → List Frame
passed_in residences_ns members offers group =
    accepted (offers_to (opened residences_ns members) group offers)
    (verdicts_in (opened residences_ns members) group offers)

-- what its group accepted of a member
abbrev pub passed_of_member : List ℕ → List Member → List Offer → ℕ → List Frame
passed_of_member residences_ns members offers member =
    accepted_of member (offers_to (opened residences_ns members) (group_among residences_ns members member) offers)
    (verdicts_in (opened residences_ns members) (group_among residences_ns members member) offers)

-- whatever the members offer, what its group accepts of each conforms to its rate and burst
abbrev pub GroupsOutputConforms : Type 0
GroupsOutputConforms = (residences_ns : List ℕ) (members : List Member) (offers : List Offer) (member : ℕ)
    → IsUse residences_ns members offers → member < length members
    → Conforms (declared_at (opened residences_ns members) member).rate (declared_at (opened residences_ns members)
    member).burst_bits (passed_of_member residences_ns members offers member)

-- the times of all that each group accepts do not descend
abbrev pub GroupsOutputAscends : Type 0
GroupsOutputAscends = (residences_ns : List ℕ) (members : List Member) (offers : List Offer) (group : ℕ)
    → IsUse residences_ns members offers → IsNonDecreasing (times_of (passed_in residences_ns members offers group))

-- an accepted frame's eligibility time is the least, not before its arrival or the group time, with which what was
-- accepted of its member, followed by it, conforms
abbrev pub GroupsEligibilityIsLeast : Type 0
GroupsEligibilityIsLeast =
    (residences_ns : List ℕ) (members : List Member) (offers : List Offer) (offer : Offer) (e : Ps)
    → IsUse residences_ns members offers → offer.member < length members
    → verdict_at (groups_last (opened residences_ns members) offers) offer ≡ Eligible e
    → IsLeastConforming (declared_at (opened residences_ns members) offer.member).rate (declared_at
    (opened residences_ns members) offer.member).burst_bits (passed_of_member residences_ns members offers offer.member)
    (time_at (groups_last (opened residences_ns members) offers).times
    (group_among residences_ns members offer.member)) offer.arrival (bits_of offer.octets) e.0
