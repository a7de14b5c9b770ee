-- Groups by computation, and by the laws of groups.
use Rattle.std.proofs.Common.{◌≡◌, ℕ, ◌+◌, ◌*◌, ◌<◌, ◌≤◌, true, List, ap, refl, subst, arith, lit<, lit≤}
use Rattle.std.proofs.Common.{All, [], ◌∷◌, inl, inr}
use Rattle.std.proofs.lemmas.List.Elements.{All-cons, All-nil}
use Rattle.std.specs.Prelude.{AllPairs, get_or, nat_le, nat_lt}
use Rattle.std.specs.List.{AllZip, list_all}
use Rattle.std.specs.List.Sorted.{IsNonDecreasingBy}
use Rattle.std.proofs.lemmas.Bool.{cases_eq}
use Rattle.ats_num.specs.declared.time.Ps.{Ps}
use Rattle.ats_num.specs.declared.time.TheConstants.{PS_PER_NS}
use Rattle.ats_streams.specs.Traffic.{IsRuled, is_declared_size}
use Rattle.ats_group.specs.declared.verdict.Verdict.{Verdict}
use Rattle.ats_group.specs.declared.verdict.Verdict.TheVariants.{Eligible, Late, Size}
use Rattle.ats_group.specs.Group.{Offer}
use Rattle.ats_group.specs.GroupsState.{IsMember}
use Rattle.ats_group_law.specs.GroupsLaws.{IsUse}
use Rattle.ats_group_law.specs.Shaping.{IsDelayed, IsEligibleAgain, Passage, frames_before}
use Rattle.ats_group_law.specs.Windows.{KeepsWindows}
use Rattle.ats_group_law.proofs.GroupsOutput.{groups_eligibility_least, groups_output_ascends, groups_output_conforms}
use Rattle.ats_group_law.proofs.ShapingFree.{shaping_free}
use Rattle.ats_group_law.proofs.WindowPlaces.{by_windows}
use Rattle.ats_examples.specs.Groups.{fast, out_of_order}
use Rattle.ats_examples.proofs.BucketTest.{conforms, conforms_by}
use Rattle.ats_examples.proofs.Tests.{all_by, le_of, lt_of, pairs_by}
use Rattle.ats_lrq_examples.specs.Groups.{GroupsAreMet, ShapingIsMet, again, any_offers, eligible_at, in_order, of_both}
use Rattle.ats_lrq_examples.specs.Groups.{member_in, three_members, two_residences, waiting}

fast_ruled : (member : ℕ) → IsRuled (fast member)
fast_ruled member = record {
  rate = record { positive = omega arith; within = omega arith };
  sizes = record { least = omega arith; ordered = omega arith; most = omega arith };
  covers = omega arith;
  burst = omega arith;
}

windows_by : (member : ℕ) → conforms 100000000 12336 (frames_before member in_order) ≡ true
    → KeepsWindows 100000000 12336 (frames_before member in_order)
windows_by member h =
    let frames = frames_before member in_order in
    ((by_windows 100000000 12336 frames).0 (conforms_by 100000000 12336 frames h)).windows

ascending : IsNonDecreasingBy (λ (p : Passage). p.since) in_order
ascending i j d before within =
    let pairs : AllPairs (λ (a b : Passage). a.since ≤ b.since) in_order =
    pairs_by (λ (a b : Passage). a.since ≤ b.since) (λ a b. nat_le a.since b.since)
    (λ a b. le_of a.since b.since) in_order refl in
    elim (cases_eq i j) [
      | inl same ↦ subst (λ (k : ℕ). (get_or in_order i d).since ≤ (get_or in_order k d).since) same (omega arith)
      | inr other ↦ pairs i j d (omega arith) within
    ]

delayed : IsDelayed fast 20000 20000000 in_order
delayed = record {
  ruled = all_by (λ (p : Passage). IsRuled (fast p.offer.member)) (λ p. true) (λ p h. fast_ruled p.offer.member)
      in_order refl;
  sized = all_by (λ (p : Passage). is_declared_size (fast p.offer.member) p.offer.octets ≡ true)
      (λ p. is_declared_size (fast p.offer.member) p.offer.octets) (λ p h. h) in_order refl;
  in_order = ascending;
  conformed = all_by (λ (p : Passage). KeepsWindows 100000000 12336 (frames_before p.offer.member in_order))
      (λ p. conforms 100000000 12336 (frames_before p.offer.member in_order)) (λ p. windows_by p.offer.member) in_order
      refl;
  arrives = all_by (λ (p : Passage). p.offer.arrival ≤ p.since + 20000000)
      (λ p. nat_le p.offer.arrival (p.since + 20000000)) (λ p. le_of p.offer.arrival (p.since + 20000000)) in_order
      refl;
  may_stay = all_by (λ (p : Passage). p.since + 20000000 ≤ p.offer.arrival + PS_PER_NS * 20000)
      (λ p. nat_le (p.since + 20000000) (p.offer.arrival + PS_PER_NS * 20000))
      (λ p. le_of (p.since + 20000000) (p.offer.arrival + PS_PER_NS * 20000)) in_order refl;
}

-- stands in a list's place where there is none
abbrev no_passage : Passage
no_passage = record { since = 0; offer = waiting }

not_delayed : ¬ IsDelayed fast 20000 19999999 in_order
not_delayed h =
    let soon : 20000000 ≤ 19999999 = h.arrives 0 no_passage (lit< tt) in
    absurd (omega (arith, soon))

turned : ¬ IsDelayed fast 1000000 1 out_of_order
turned h =
    let descends : 1 ≤ 0 = h.in_order 0 1 no_passage (lit≤ tt) (lit< tt) in
    absurd (omega (arith, descends))

abbrev time_told : Verdict → ℕ
time_told (Eligible e) = e.0
time_told (Late e) = e.0
time_told Size = 0

not_free : ¬ AllZip (IsEligibleAgain 19999999) in_order again
not_free free =
    let first : (e : Ps) × (eligible_at 20000000 ≡ Eligible e) × (e.0 ≤ 0 + 19999999) = free.0 in
    let same : 20000000 ≡ first.0.0 = ap time_told first.1 in
    absurd (omega (arith, same, first.2))

pub shaping_is_met : ShapingIsMet
shaping_is_met = record {
  delayed = delayed;
  verdicts = refl;
  free = shaping_free fast 20000 20000000 in_order delayed;
  not_delayed = not_delayed;
  not_free = not_free;
  turned = turned;
}

lawful_in : (group : ℕ) → group < 2 → IsMember 2 (member_in group)
lawful_in group within = record { group = within; declared = fast_ruled 0 }

three_lawful : All (IsMember 2) three_members
three_lawful = All-cons (IsMember 2) (member_in 0) (member_in 0 ∷ member_in 1 ∷ []) (lawful_in 0 (lit< tt))
    (All-cons (IsMember 2) (member_in 0) (member_in 1 ∷ []) (lawful_in 0 (lit< tt))
    (All-cons (IsMember 2) (member_in 1) [] (lawful_in 1 (lit< tt)) (All-nil (IsMember 2))))

use_by : (offers : List Offer) → list_all (λ (o : Offer). nat_lt o.member 3) offers ≡ true
    → IsUse two_residences three_members offers
use_by offers h = record {
  lawful = three_lawful;
  known = all_by (λ (o : Offer). o.member < 3) (λ o. nat_lt o.member 3) (λ o. lt_of o.member 3) offers h;
}

pub groups_are_met : GroupsAreMet
groups_are_met = record {
  met = use_by any_offers refl;
  passed = refl;
  passed_of_first = refl;
  by_lrq = refl;
  by_lrq_of_first = refl;
  conforms = groups_output_conforms two_residences three_members any_offers 0 (use_by any_offers refl) (lit< tt);
  ascends = groups_output_ascends two_residences three_members any_offers 0 (use_by any_offers refl);
  least = groups_eligibility_least two_residences three_members of_both waiting (record { 0 = 143360000 })
      (use_by of_both refl) (lit< tt) refl;
}
