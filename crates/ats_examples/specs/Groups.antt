use Rattle.std.specs.Prelude.{◌≡◌, ℕ, ◌+◌, ◌*◌, ◌≤◌, max, true, pos, List, [], ◌∷◌, All, map}
use Rattle.std.specs.List.{AllZip}
use Rattle.ats_num.specs.Division.{ceiling}
use Rattle.ats_num.specs.declared.time.TheConstants.{PS_PER_NS, PS_PER_SECOND}
use Rattle.ats_bucket.specs.Conforming.{Frame, Conforms}
use Rattle.ats_streams.specs.declared.traffic.Declared.{Declared}
use Rattle.ats_group.specs.declared.verdict.Verdict.{Verdict}
use Rattle.ats_group.specs.declared.verdict.Verdict.TheVariants.{Eligible, Late}
use Rattle.ats_group.specs.Group.{Offer, first, verdicts_of, state_after}
use Rattle.ats_streams.specs.Traffic.{IsRuled, is_declared_size}
use Rattle.ats_group_law.specs.Laws.{passed_of, group_time, next_verdict}
use Rattle.ats_group_law.specs.Shaping.{Passage, offers_of, frames_before, IsEligibleAgain}
use Rattle.ats_group_law.specs.Windows.{KeepsWindows}
use Rattle.ats_group.specs.Judge.{ats_judge}
use Rattle.ats_group_law.specs.Renaming.{IsRenaming, renamed_offer}

-- Frames that come to one group.

-- a frame of the only member, as offered and as accepted
abbrev pub offer_at : ℕ → ℕ → Offer
offer_at arrival octets = record { member = 0; arrival = arrival; octets = octets }

abbrev pub frame_at : ℕ → ℕ → Frame
frame_at at bits = record { at = at; bits = bits }

-- 100 Mb/s, with a burst of one frame of 1522 octets, in a group with a residence of 1 ms
abbrev pub fast : ℕ → Declared
fast member = record { rate = 100000000; burst_bits = 12336; min_octets = 64; max_octets = 1522 }

abbrev pub two_offers : List Offer
two_offers = offer_at 0 1522 ∷ offer_at 12336000 1522 ∷ []

-- the first frame empties the bucket; the second waits until just its bits are there, and could not go a picosecond
-- earlier
pub record BucketEmptied : Type 0 where
  pub ruled : IsRuled (fast 0)
  pub verdicts : verdicts_of fast 1000000 (first fast) two_offers
      ≡ Eligible (record { 0 = 0 }) ∷ Eligible (record { 0 = 123360000 }) ∷ []
  pub passed : passed_of fast 1000000 two_offers 0 ≡ frame_at 0 12336 ∷ frame_at 123360000 12336 ∷ []
  pub not_earlier : Conforms 100000000 12336 (frame_at 0 12336 ∷ frame_at 123359999 12336 ∷ []) → ⊥

-- 11 Mb/s, at which a frame of 64 octets takes no whole number of picoseconds
abbrev pub odd : ℕ → Declared
odd member = record { rate = 11000000; burst_bits = 672; min_octets = 64; max_octets = 64 }

abbrev pub three_offers : List Offer
three_offers = offer_at 0 64 ∷ offer_at 672000 64 ∷ offer_at 1344000 64 ∷ []

-- each eligibility time is rounded up, and the bucket stays exact
pub record RoundedUp : Type 0 where
  pub ruled : IsRuled (odd 0)
  pub verdicts : verdicts_of odd 1000000 (first odd) three_offers
      ≡ Eligible (record { 0 = 0 }) ∷ Eligible (record { 0 = 61090910 }) ∷ Eligible (record { 0 = 122181820 }) ∷ []
  pub empty : (state_after odd 1000000 (first odd) (offer_at 0 64 ∷ offer_at 672000 64 ∷ [])).empty 0
      ≡ pos 672000010000000
  pub not_down : Conforms 11000000 672 (frame_at 0 672 ∷ frame_at 61090909 672 ∷ []) → ⊥

-- a frame of a member that was eligible at the hop before at this time, and arrives a picosecond later
abbrev pub passage : ℕ → ℕ → Passage
passage member since = record { since = since; offer = record { member = member; arrival = since + 1; octets = 1522 } }

-- frames of two members that come in another order than they were eligible there, each with a burst of its own
abbrev pub out_of_order : List Passage
out_of_order = passage 1 1 ∷ passage 0 0 ∷ []

-- the frames of its member conformed at the hop before
abbrev pub ConformedBefore : Passage → Type 0
ConformedBefore p = KeepsWindows 100000000 12336 (frames_before p.offer.member out_of_order)

-- the verdict on each: eligible at 2 ps
abbrev pub both_at_2 : List Verdict
both_at_2 = Eligible (record { 0 = 2 }) ∷ Eligible (record { 0 = 2 }) ∷ []

-- the order of the hop before counts: where all else holds that makes shaping free, the first frame is eligible again
-- just within the bound of 1 ps, and the second only with it, which is a picosecond later than its own bound
pub record OrderCounts : Type 0 where
  pub ruled : All (λ (p : Passage). IsRuled (fast p.offer.member)) out_of_order
  pub sized : All (λ (p : Passage). is_declared_size (fast p.offer.member) p.offer.octets ≡ true) out_of_order
  pub conformed : All ConformedBefore out_of_order
  pub arrives : All (λ (p : Passage). p.offer.arrival ≤ p.since + 1) out_of_order
  pub may_stay : All (λ (p : Passage). p.since + 1 ≤ p.offer.arrival + PS_PER_NS * 1000000) out_of_order
  pub verdicts : verdicts_of fast 1000000 (first fast) (offers_of out_of_order) ≡ both_at_2
  pub not_free : ¬ AllZip (IsEligibleAgain 1) out_of_order both_at_2

-- two frames at once, each as large as the burst of its own member
abbrev pub of_two_members : List Offer
of_two_members =
    record { member = 0; arrival = 0; octets = 1522 } ∷ record { member = 1; arrival = 0; octets = 1522 } ∷ []

-- the verdicts on them, where the second is eligible at this time
abbrev pub second_at : ℕ → List Verdict
second_at time = Eligible (record { 0 = 0 }) ∷ Eligible (record { 0 = time }) ∷ []

-- under numbers of their own, 5 and 6, each has its bucket as before; that each gets its own counts, since under one
-- number they share a bucket
pub record NumbersAreOwn : Type 0 where
  pub before : ats_judge fast 1000000 of_two_members ≡ second_at 0
  pub renaming : IsRenaming (λ member. true) (λ member. member + 5) fast fast
  pub kept : ats_judge fast 1000000 (map (renamed_offer (λ member. member + 5)) of_two_members) ≡ second_at 0
  pub shared : ats_judge fast 1000000 (map (renamed_offer (λ member. 0)) of_two_members) ≡ second_at 123360000

-- the same member with a burst that covers no frame of 1522 octets
abbrev pub narrow : ℕ → Declared
narrow member = record { rate = 100000000; burst_bits = 672; min_octets = 64; max_octets = 1522 }

-- the last time that a late frame may be told, behind one of 1522 octets at 0 ps, where it comes at 12336000 ps with as
-- many
abbrev pub last_told : (ℕ → Declared) → ℕ → ℕ
last_told declared residence_ns =
    max 12336000 (group_time declared residence_ns (offer_at 0 1522 ∷ [])
    + ceiling (PS_PER_SECOND * 12336) (declared 0).rate)

-- a late frame is told just the last time that it may be, until which the rate gives its bits behind the frame before.
-- That the burst covers a frame counts: by a shorter one it is told a later time
pub record LateIsSoon : Type 0 where
  pub ruled : IsRuled (fast 0)
  pub told : next_verdict fast 12336 (offer_at 0 1522 ∷ []) (offer_at 12336000 1522) ≡ Late (record { 0 = 123360000 })
  pub last : last_told fast 12336 ≡ 123360000
  pub not_ruled : ¬ IsRuled (narrow 0)
  pub told_later : next_verdict narrow 116640 (offer_at 0 1522 ∷ []) (offer_at 12336000 1522)
      ≡ Late (record { 0 = 356640000 })
  pub not_soon : last_told narrow 116640 ≡ 240000000
