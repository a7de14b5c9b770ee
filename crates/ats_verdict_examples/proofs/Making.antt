use Rattle.std.proofs.Common.{◌≡◌, ℕ, zero, suc, ◌≤◌, Bool, true, false, cond, ◌&&◌, List, [], ◌∷◌, ◌++◌, filter}
use Rattle.std.proofs.Common.{get_or, refl, sym, ap, subst, ◌∙◌, arith, lit<, lit≤, inl, inr}
use Rattle.std.specs.Prelude.{not, nat_le, AllPairs, Contains}
use Rattle.std.specs.Ordering.{is_lt, nat_cmp}
use Rattle.std.specs.List.Sorted.{ties, IsNonDecreasingBy, IsStableByKey}
use Rattle.std.proofs.lemmas.Bool.{and_parts, cases_eq, false≢true, not-true}
use Rattle.std.proofs.lemmas.List.Elements.{filter-append}
use Rattle.std.proofs.lemmas.List.Sorted.{IsPermutation-refl, IsPermutation-swap, Contains-permutation}
use Rattle.std.proofs.lemmas.Map.Keys.{ge_from_not_lt}
use Rattle.ats_trace.specs.declared.journey.Release.{Release}
use Rattle.ats_gen.specs.Made.{made, AreByTime, AreMade}
use Rattle.ats_examples.specs.Networks.{fork}
use Rattle.ats_examples.proofs.Tests.{le_of, pairs_by, pairs_pass}
use Rattle.ats_verdict_examples.specs.Made.{as_made, at_once, by_time, DrawsAreMet, MakingIsMet}
use Rattle.ats_verdict_examples.specs.Networks.{release}

-- The made releases by computation, and their order by time.

abbrev at_of : Release → ℕ
at_of r = r.at.0

-- a release comes at the same time
abbrev same_time : Release → Release → Bool
same_time = ties (λ (x y : Release). is_lt (nat_cmp (at_of x) (at_of y)))

-- no release comes with both of the last two
not_both : (n : ℕ) → (not (is_lt (nat_cmp n 59543231)) && not (is_lt (nat_cmp 59543231 n))) ≡ true
    → (not (is_lt (nat_cmp n 60880000)) && not (is_lt (nat_cmp 60880000 n))) ≡ false
not_both n h =
    let parts = and_parts (not (is_lt (nat_cmp n 59543231))) (not (is_lt (nat_cmp 59543231 n))) h in
    let low : 59543231 ≤ n = ge_from_not_lt n 59543231 (not-true (is_lt (nat_cmp n 59543231)) parts.0) in
    let high : n ≤ 59543231 = ge_from_not_lt 59543231 n (not-true (is_lt (nat_cmp 59543231 n)) parts.1) in
    let there : n ≡ 59543231 = omega arith in
    subst (λ (k : ℕ). (not (is_lt (nat_cmp k 60880000)) && not (is_lt (nat_cmp 60880000 k))) ≡ false) (sym there) refl

-- so it does not matter which of the two stands first
either_way : (test : Release → Bool) (x y : Release) → (test x ≡ true → test y ≡ false)
    → filter test (x ∷ y ∷ []) ≡ filter test (y ∷ x ∷ [])
either_way test x y apart = by (test x) (test y) apart
  where
    by : (p q : Bool) → (p ≡ true → q ≡ false)
        → cond p (x ∷ cond q (y ∷ []) []) (cond q (y ∷ []) []) ≡ cond q (y ∷ cond p (x ∷ []) []) (cond p (x ∷ []) [])
    by true true apart = absurd (false≢true (sym (apart refl)))
    by true false apart = refl
    by false true apart = refl
    by false false apart = refl

abbrev front : List Release
front = release 0 0 1374 ∷ release 263231 1 774 ∷ []

stable : IsStableByKey at_of nat_cmp as_made by_time
stable x =
    let test : Release → Bool = same_time x in
    let earlier : Release = release 59543231 1 1469 in
    let later : Release = release 60880000 0 889 in
    let swapped : filter test (earlier ∷ later ∷ []) ≡ filter test (later ∷ earlier ∷ []) =
    either_way test earlier later (not_both (at_of x)) in
    filter-append test front (earlier ∷ later ∷ [])
    ∙ ap (λ (rest : List Release). filter test front ++ rest) swapped
    ∙ sym (filter-append test front (later ∷ earlier ∷ []))

-- releases by time, pair by pair
ascends_by : (releases : List Release) → pairs_pass (λ (x y : Release). nat_le (at_of x) (at_of y)) releases ≡ true
    → IsNonDecreasingBy at_of releases
ascends_by releases ordered i j d before within =
    let pairs : AllPairs (λ (x y : Release). at_of x ≤ at_of y) releases =
    pairs_by (λ (x y : Release). at_of x ≤ at_of y) (λ (x y : Release). nat_le (at_of x) (at_of y))
    (λ x y. le_of (at_of x) (at_of y)) releases ordered in
    elim (cases_eq i j) [
      | inl same ↦ subst (λ (k : ℕ). at_of (get_or releases i d) ≤ at_of (get_or releases k d)) same (omega arith)
      | inr other ↦ pairs i j d (omega arith) within
    ]

sorted : AreMade fork 7 4 by_time
sorted = record {
  same = IsPermutation-swap as_made by_time 2 3 (lit< tt) (lit< tt) refl;
  by_time = ascends_by by_time refl;
  ties = stable;
}

not_unsorted : ¬ AreMade fork 7 4 as_made
not_unsorted h =
    let back : 60880000 ≤ 59543231 = h.by_time 2 3 (release 0 0 0) (lit≤ tt) (lit< tt) in
    absurd (omega arith)

-- the first frame from another seed has other octets than each of these
no_such : ¬ Contains by_time (release 0 0 1222)
no_such (zero, within, e) = let o : ◌≡◌ {A = ℕ} 1374 1222 = ap (λ (r : Release). r.octets) e in absurd (omega arith)
no_such (suc zero, within, e) =
    let o : ◌≡◌ {A = ℕ} 774 1222 = ap (λ (r : Release). r.octets) e in absurd (omega arith)
no_such (suc (suc zero), within, e) =
    let o : ◌≡◌ {A = ℕ} 1469 1222 = ap (λ (r : Release). r.octets) e in absurd (omega arith)
no_such (suc (suc (suc zero)), within, e) =
    let o : ◌≡◌ {A = ℕ} 889 1222 = ap (λ (r : Release). r.octets) e in absurd (omega arith)
no_such (suc (suc (suc (suc k))), within, e) = absurd (omega arith)

-- releases at one time stay as they are
stays_by : (releases : List Release) → pairs_pass (λ (x y : Release). nat_le (at_of x) (at_of y)) releases ≡ true
    → AreByTime releases releases
stays_by releases ordered = record {
  same = IsPermutation-refl releases;
  by_time = ascends_by releases ordered;
  ties = λ x. refl;
}

-- the first of those that come with the second one
not_turned : ¬ AreByTime (at_once 1 0) (at_once 0 1)
not_turned h =
    let sender : ◌≡◌ {A = ℕ} 0 1 =
    ap (λ (rs : List Release). (get_or rs 0 (release 0 2 0)).sender) (h.ties (release 5 0 64)) in
    absurd (omega arith)

draws_are_met : DrawsAreMet
draws_are_met = record {
  least = refl;
  least_next = refl;
  greatest = refl;
  greatest_next = refl;
  clock = refl;
  stays = stays_by (at_once 1 0) refl;
  not_turned = not_turned;
}

pub making_is_met : MakingIsMet
making_is_met = record {
  made_is = refl;
  sorted = sorted;
  not_unsorted = not_unsorted;
  not_from_other = λ h.
      no_such (Contains-permutation (made fork 8 4) by_time (release 0 0 1222) h.same (0, lit< tt, refl));
  draws = draws_are_met;
}
