use Rattle.std.specs.Prelude.{◌≡◌, ℕ, ◌≤◌, ◌==◌, List, [], ◌∷◌, All, if◌then◌else◌}
use Rattle.ats_bucket.specs.Conforming.{Frame}
use Rattle.ats_group.specs.Group.{Offer, State, first, judged, next}
use Rattle.ats_group.specs.Judge.{Judge, ats_judge, bucket_rule}
use Rattle.ats_group.specs.declared.verdict.Verdict.{Verdict}
use Rattle.ats_group_law.specs.Regulator.{IsRegulator, IsRule}
use Rattle.ats_streams.specs.declared.traffic.Declared.{Declared}
use Rattle.ats_examples.specs.Groups.{fast, frame_at}
use Rattle.ats_lrq_examples.specs.Groups.{eligible_at, offered}

-- A regulator and a rule that are neither those of Asynchronous Traffic Shaping nor length-rate-quotient ones.

-- what is kept of each member after the next frame, where each has a group of its own: only that of the frame's member
-- changes
abbrev pub next_alone : (ℕ → Declared) → ℕ → (ℕ → State) → Offer → ℕ → State
next_alone declared residence_ns states offer member =
    if member == offer.member then next declared residence_ns (states offer.member) offer else states member

-- the verdicts on frames that come one after another
abbrev pub verdicts_alone : (ℕ → Declared) → ℕ → (ℕ → State) → List Offer → List Verdict
verdicts_alone declared residence_ns states [] = []
verdicts_alone declared residence_ns states (offer ∷ offers) =
    judged declared residence_ns (states offer.member) offer
    ∷ verdicts_alone declared residence_ns (next_alone declared residence_ns states offer) offers

-- a shaper for each member, which waits for no other
abbrev pub alone_judge : Judge
alone_judge declared residence_ns offers = verdicts_alone declared residence_ns (λ member. first declared) offers

-- frames of two members, of which the second comes earlier; as for any regulator, the frames may come in any order
abbrev pub of_two_members : List Offer
of_two_members = offered 0 20000000 1522 ∷ offered 1 5 1522 ∷ []

-- it regulates by the rule of a token bucket. What it lets through of two members need not ascend, which it does where
-- they are of one group
pub record AloneIsRegulator : Type 0 where
  pub regulator : IsRegulator alone_judge bucket_rule
  pub descends : alone_judge fast 1000000 of_two_members ≡ eligible_at 20000000 ∷ eligible_at 5 ∷ []
  pub in_group : ats_judge fast 1000000 of_two_members ≡ eligible_at 20000000 ∷ eligible_at 20000000 ∷ []

-- the rule of a token bucket, and beside it that no frame comes before 5 ps
abbrev pub from_five : Declared → List Frame → Type 0
from_five declared frames = bucket_rule declared frames × All (λ (f : Frame). 5 ≤ f.at) frames

-- it is one that talkers may be asked to keep, though frames that keep it do not keep it a picosecond earlier
pub record RulesMayNameTimes : Type 0 where
  pub rule : IsRule from_five
  pub kept : from_five (fast 0) (frame_at 5 12336 ∷ [])
  pub not_earlier : ¬ from_five (fast 0) (frame_at 4 12336 ∷ [])

pub record OthersRegulate : Type 0 where
  pub alone : AloneIsRegulator
  pub rules : RulesMayNameTimes
