use Rattle.std.specs.Prelude.{◌≡◌, ◌≢◌, ℕ, ◌<◌, ◌≤◌, ◌==◌, List, [], ◌∷◌, length, filter, All, Option, if◌then◌else◌}
use Rattle.ats_group.specs.declared.member.Member.{Member}
use Rattle.ats_group.specs.declared.verdict.Verdict.{Verdict}
use Rattle.ats_group.specs.Group.{Offer}
use Rattle.ats_lrq.specs.declared.last_frame.LastFrame.{LastFrame}
use Rattle.ats_lrq.specs.Spacing.{IsEligibility, eligibility_time}
use Rattle.ats_lrq.specs.Fold.{first, judged, next, verdicts_of, state_after}
use Rattle.ats_lrq.specs.GroupsState.{LrqState, AreLrqGroups, declared_of, group_of, opened, residence_of, state_of}
use Rattle.ats_lrq.specs.GroupsState.{value_after, verdict_of}

-- the computed eligibility time is the least one
abbrev pub EligibilityTimeIsLeast : Type 0
EligibilityTimeIsLeast = (rate : ℕ) (last : Option LastFrame) (group arrival : ℕ) → 1 ≤ rate
    → IsEligibility rate last group arrival (eligibility_time rate last group arrival)

-- the verdict on an offered frame, and what the groups keep after it
abbrev pub verdict_at : LrqState → Offer → Verdict
verdict_at groups offer = verdict_of groups offer.member offer.arrival offer.octets

abbrev pub groups_next : LrqState → Offer → LrqState
groups_next groups offer = value_after groups offer.member offer.arrival offer.octets

-- the frame is judged by its member's group alone, which takes the step of the fold; every other group stays as it is
pub record IsStep (groups : LrqState) (offer : Offer) (group : ℕ) : Type 0 where
  pub verdict : verdict_at groups offer
      ≡ judged (declared_of groups) (residence_of groups group) (state_of groups group) offer
  pub own : state_of (groups_next groups offer) group
      ≡ next (declared_of groups) (residence_of groups group) (state_of groups group) offer
  pub others : (other : ℕ) → other ≢ group → state_of (groups_next groups offer) other ≡ state_of groups other

-- each frame of a member is one step of its group's fold
abbrev pub EachFrameIsAStep : Type 0
EachFrameIsAStep = (groups : LrqState) (offer : Offer) → AreLrqGroups groups → offer.member < length groups.members
    → IsStep groups offer (group_of groups offer.member)

-- opened groups are at the fold's first state
abbrev pub OpenedIsFirst : Type 0
OpenedIsFirst = (residences_ns : List ℕ) (members : List Member) (group : ℕ)
    → state_of (opened residences_ns members) group ≡ first

-- what the groups keep after frames to any groups, one after another
abbrev pub groups_last : LrqState → List Offer → LrqState
groups_last groups [] = groups
groups_last groups (offer ∷ offers) = groups_last (groups_next groups offer) offers

-- of the verdicts on frames to any groups, one after another, those on the frames to this group
abbrev pub verdicts_in : LrqState → ℕ → List Offer → List Verdict
verdicts_in groups group [] = []
verdicts_in groups group (offer ∷ offers) =
    if group_of groups offer.member == group
    then verdict_at groups offer ∷ verdicts_in (groups_next groups offer) group offers
    else verdicts_in (groups_next groups offer) group offers

-- the frames to this group
abbrev pub offers_to : LrqState → ℕ → List Offer → List Offer
offers_to groups group offers = filter (λ (o : Offer). group_of groups o.member == group) offers

-- whatever comes to the other groups, a group's verdicts and its state at the end are the fold's over its own frames
pub record IsFold (groups : LrqState) (offers : List Offer) (group : ℕ) : Type 0 where
  pub verdicts : verdicts_in groups group offers ≡ verdicts_of (declared_of groups) (residence_of groups group)
      (state_of groups group) (offers_to groups group offers)
  pub state : state_of (groups_last groups offers) group ≡ state_after (declared_of groups)
      (residence_of groups group) (state_of groups group) (offers_to groups group offers)

abbrev pub EachGroupIsAFold : Type 0
EachGroupIsAFold = (groups : LrqState) (offers : List Offer) (group : ℕ) → AreLrqGroups groups
    → All (λ (o : Offer). o.member < length groups.members) offers → IsFold groups offers group

-- the members, the residences and that all groups are lawful outlast each frame
pub record Outlasts (groups next : LrqState) : Type 0 where
  pub members : next.members ≡ groups.members
  pub residences : next.residences_ns ≡ groups.residences_ns
  pub lawful : AreLrqGroups next

abbrev pub EachFrameKeepsTheRest : Type 0
EachFrameKeepsTheRest = (groups : LrqState) (offer : Offer) → AreLrqGroups groups
    → Outlasts groups (groups_next groups offer)
