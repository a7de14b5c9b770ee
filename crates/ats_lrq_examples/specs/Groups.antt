use Rattle.std.specs.Prelude.{◌≡◌, ℕ, List, [], ◌∷◌}
use Rattle.std.specs.List.{AllZip}
use Rattle.std.specs.List.Sorted.{IsNonDecreasing}
use Rattle.ats_bucket.specs.Conforming.{Conforms, Frame, times_of}
use Rattle.ats_group.specs.declared.member.Member.{Member}
use Rattle.ats_group.specs.declared.verdict.Verdict.{Verdict}
use Rattle.ats_group.specs.declared.verdict.Verdict.TheVariants.{Eligible}
use Rattle.ats_group.specs.Group.{Offer, first, verdicts_of}
use Rattle.ats_group_law.specs.GroupsLaws.{IsUse, passed_in, passed_of_member}
use Rattle.ats_group_law.specs.Laws.{IsLeastConforming}
use Rattle.ats_group_law.specs.Shaping.{IsDelayed, IsEligibleAgain, Passage, offers_of}
use Rattle.ats_lrq_law.specs.Laws as lrq
use Rattle.ats_examples.specs.Groups.{fast, frame_at, out_of_order}

-- Frames that come to groups, for which all holds that the laws of groups ask.

abbrev pub offered : ℕ → ℕ → ℕ → Offer
offered member arrival octets = record { member = member; arrival = arrival; octets = octets }

-- a frame of a member that was eligible at the hop before at one time, and arrives at the other
abbrev pub came : ℕ → ℕ → ℕ → Passage
came member since arrival = record { since = since; offer = offered member arrival 1522 }

-- frames of two members in the order in which they were eligible there; the bucket of the first is full again when it
-- sends its second. The first frame takes 20 us to come here, and the last 1 ps
abbrev pub in_order : List Passage
in_order = came 0 0 20000000 ∷ came 1 1 20000000 ∷ came 0 123360000 123360001 ∷ []

abbrev pub eligible_at : ℕ → Verdict
eligible_at time = Eligible (record { 0 = time })

abbrev pub again : List Verdict
again = eligible_at 20000000 ∷ eligible_at 20000000 ∷ eligible_at 143360000 ∷ []

-- what `shaping_is_free` asks is met by them with a bound of 20 us and a residence as long, and not with a bound 1 ps
-- shorter; nor is it by frames that come out of their order. Each frame is eligible again within the bound, the first
-- and the last just then
pub record ShapingIsMet : Type 0 where
  pub delayed : IsDelayed fast 20000 20000000 in_order
  pub verdicts : verdicts_of fast 20000 (first fast) (offers_of in_order) ≡ again
  pub free : AllZip (IsEligibleAgain 20000000) in_order again
  pub not_delayed : ¬ IsDelayed fast 20000 19999999 in_order
  pub not_free : ¬ AllZip (IsEligibleAgain 19999999) in_order again
  pub turned : ¬ IsDelayed fast 1000000 1 out_of_order

-- two members of one group, and one of another, in which a frame may stay 20 us each
abbrev pub member_in : ℕ → Member
member_in group = record { group = group; declared = fast 0 }

abbrev pub three_members : List Member
three_members = member_in 0 ∷ member_in 0 ∷ member_in 1 ∷ []

abbrev pub two_residences : List ℕ
two_residences = 20000 ∷ 20000 ∷ []

-- frames that come to both groups, at times that do not ascend; the last of these is too long
abbrev pub of_both : List Offer
of_both = offered 0 20000000 1522 ∷ offered 2 5 1522 ∷ offered 1 1 1522 ∷ offered 0 123360001 1523 ∷ []

-- behind them one that waits for its bucket
abbrev pub waiting : Offer
waiting = offered 0 123360001 1522

-- and in all one more, which is late
abbrev pub any_offers : List Offer
any_offers =
    offered 0 20000000 1522 ∷ offered 2 5 1522 ∷ offered 1 1 1522 ∷ offered 0 123360001 1523
    ∷ waiting ∷ offered 0 123360002 1522 ∷ []

-- what the first group accepts, and what of it is of the first member
abbrev pub of_group : List Frame
of_group = frame_at 20000000 12336 ∷ frame_at 20000000 12336 ∷ frame_at 143360000 12336 ∷ []

abbrev pub of_member : List Frame
of_member = frame_at 20000000 12336 ∷ frame_at 143360000 12336 ∷ []

-- what the laws of groups ask is met by them, whichever regulator the groups have, and what these accept is as the laws
-- say. Refuses laws that ask for declared sizes, for frames that are not late, or for an order of arrivals
pub record GroupsAreMet : Type 0 where
  pub met : IsUse two_residences three_members any_offers
  pub passed : passed_in two_residences three_members any_offers 0 ≡ of_group
  pub passed_of_first : passed_of_member two_residences three_members any_offers 0 ≡ of_member
  pub by_lrq : lrq.passed_in two_residences three_members any_offers 0 ≡ of_group
  pub by_lrq_of_first : lrq.passed_of_member two_residences three_members any_offers 0 ≡ of_member
  pub conforms : Conforms 100000000 12336 of_member
  pub ascends : IsNonDecreasing (times_of of_group)
  pub least : IsLeastConforming 100000000 12336 (frame_at 20000000 12336 ∷ []) 20000000 123360001 12336 143360000
