use Rattle.std.proofs.Common.{◌≡◌, ℕ, suc, ◌+◌, ◌<◌, ◌≤◌, Bool, true, false, cond, List, [], ◌∷◌, length}
use Rattle.std.proofs.Common.{get_or, take, drop, sum_by, refl, sym, ap, ◌∙◌, inl, inr, arith}
use Rattle.std.specs.Prelude.{◌&&◌, not, nat_le}
use Rattle.std.specs.List.{All}
use Rattle.std.specs.List.Sorted.{IsNonDecreasingBy}
use Rattle.std.proofs.lemmas.Bool.{cases_Bool, cond-true, cond-false, leb-false}
use Rattle.std.proofs.lemmas.Bool.{lt-leb}
use Rattle.std.proofs.lemmas.List.{get_or-take, get_or-drop, length-take-le, length-drop}
use Rattle.std.proofs.lemmas.List.Sums.{sum_by-cons, sum_by-take-drop, sum_by-take-le}
use Rattle.std.proofs.lemmas.List.Elements.{All-from_get_or}
use Rattle.ats_buffer.specs.Moments.{order_of, bits_where, comes_by, ends_by}
use Rattle.ats_buffer.specs.declared.moments.Moment.{Moment}
use Rattle.ats_buffer.proofs.Sums.{sum_by-le-all, sum_by-none, sum_by-same, sum_by-filter}

-- for numbers past the last moment
abbrev pub no_moment : Moment
no_moment = record { at = record { 0 = 0 }; comes = false; port = 0; class = 0; bits = 0 }

-- what a moment adds to the bits of those that pass a test
abbrev pub weight : (Moment → Bool) → Moment → ℕ
weight test m = cond (test m) m.bits 0

pub bits_are : (test : Moment → Bool) (ms : List Moment) → bits_where test ms ≡ sum_by (weight test) ms
bits_are test ms = sum_by-filter (λ (m : Moment). m.bits) test ms

-- what comes, and what ends
abbrev pub comes : Moment → Bool
comes m = m.comes

abbrev pub ends : Moment → Bool
ends m = not m.comes

-- the order of two moments is that of their times
flag_most : (b : Bool) → cond b 1 0 ≤ 1
flag_most true = omega arith
flag_most false = omega arith

pub times_ascend : (m n : Moment) → order_of m ≤ order_of n → m.at.0 ≤ n.at.0
times_ascend m n le = omega (arith, flag_most m.comes, flag_most n.comes)

-- the first of ordered moments is no later than the others
pub first_least : (m : Moment) (ms : List Moment) → IsNonDecreasingBy order_of (m ∷ ms)
    → All (λ (n : Moment). order_of m ≤ order_of n) ms
first_least m ms o k d h = o 0 (suc k) d (omega arith) (omega arith)

pub rest_ordered : (m : Moment) (ms : List Moment) → IsNonDecreasingBy order_of (m ∷ ms) → IsNonDecreasingBy order_of ms
rest_ordered m ms o i j d le h = o (suc i) (suc j) d (omega arith) (omega arith)

-- where ordered moments are cut at a time: those before the cut are those until the time
pub record Cut (ms : List Moment) (time : ℕ) : Type 0 where
  pub place : ℕ
  pub within : place ≤ length ms
  pub sums : (f : Moment → ℕ) → sum_by f (take place ms)
      ≡ sum_by (λ (m : Moment). cond (nat_le m.at.0 time) (f m) 0) ms

pub cut : (ms : List Moment) → IsNonDecreasingBy order_of ms → (time : ℕ) → Cut ms time
cut [] o time = record { place = 0; within = omega arith; sums = λ f. refl }
cut (m ∷ ms) o time = elim (cases_Bool (nat_le m.at.0 time)) as (λ _. Cut (m ∷ ms) time) [
  | inl until ↦ (
      let rest : Cut ms time = cut ms (rest_ordered m ms o) time in
      record {
        place = suc rest.place;
        within = omega (arith, rest.within);
        sums = λ f. (
            let here = cond-true (nat_le m.at.0 time) (f m) 0 until in
            let first = sum_by-cons f m (take rest.place ms) in
            let all = sum_by-cons (λ (m : Moment). cond (nat_le m.at.0 time) (f m) 0) m ms in
            omega (arith, here, first, all, rest.sums f));
      })
  | inr later ↦ record {
    place = 0;
    within = omega arith;
    sums = λ f. (
        let here = cond-false (nat_le m.at.0 time) (f m) 0 later in
        let after : time < m.at.0 = leb-false m.at.0 time later in
        let none = sum_by-none (λ (m : Moment). cond (nat_le m.at.0 time) (f m) 0) ms
        (λ k d h. (
        let le = times_ascend m (get_or ms k d) (first_least m ms o k d h) in
        omega (
          arith,
          cond-false (nat_le (get_or ms k d).at.0 time) (f (get_or ms k d)) 0
              (lt-leb (get_or ms k d).at.0 time (omega (arith, after, le))),
        )))
        in
        let all = sum_by-cons (λ (m : Moment). cond (nat_le m.at.0 time) (f m) 0) m ms in
        omega (arith, here, none, all));
  }
]

cond_both : (b c : Bool) (n : ℕ) → cond (b && c) n 0 ≡ cond c (cond b n 0) 0
cond_both true true n = refl
cond_both true false n = refl
cond_both false true n = refl
cond_both false false n = refl

-- so the bits that come by the time, and those that end by it
pub comes_until : (ms : List Moment) (time : ℕ) (c : Cut ms time)
    → bits_where (comes_by time) ms ≡ sum_by (weight comes) (take c.place ms)
comes_until ms time c =
    bits_are (comes_by time) ms
    ∙ sum_by-same (weight (comes_by time)) (λ (m : Moment). cond (nat_le m.at.0 time) (weight comes m) 0) ms
    (λ m. cond_both m.comes (nat_le m.at.0 time) m.bits)
    ∙ sym (c.sums (weight comes))

pub ends_until : (ms : List Moment) (time : ℕ) (c : Cut ms time)
    → bits_where (ends_by time) ms ≡ sum_by (weight ends) (take c.place ms)
ends_until ms time c =
    bits_are (ends_by time) ms
    ∙ sum_by-same (weight (ends_by time)) (λ (m : Moment). cond (nat_le m.at.0 time) (weight ends m) 0) ms
    (λ m. cond_both (not m.comes) (nat_le m.at.0 time) m.bits)
    ∙ sym (c.sums (weight ends))

-- a test that passes wherever another does counts no less
pub weight-le : (test other : Moment → Bool) (m : Moment) → (test m ≡ true → other m ≡ true)
    → weight test m ≤ weight other m
weight-le test other m h = elim (cases_Bool (test m)) as (λ _. weight test m ≤ weight other m) [
  | inl e ↦ omega (arith, cond-true (test m) m.bits 0 e, cond-true (other m) m.bits 0 (h e))
  | inr e ↦ omega (arith, cond-false (test m) m.bits 0 e)
]

-- the first moments, up to a place, count no more than all of a wider test
pub take-le : (test other : Moment → Bool) (ms : List Moment) (k : ℕ) (d : Moment) → k ≤ length ms
    → ((i : ℕ) → i < k → test (get_or ms i d) ≡ true → other (get_or ms i d) ≡ true)
    → sum_by (weight test) (take k ms) ≤ sum_by (weight other) ms
take-le test other ms k d within h =
    let short = length-take-le k ms within in
    let each = sum_by-le-all (weight test) (weight other) (take k ms)
    (All-from_get_or (λ (m : Moment). weight test m ≤ weight other m) (take k ms) d
    (λ i below. (
    let same = get_or-take k ms i d (omega (arith, below, short)) in
    weight-le test other (get_or (take k ms) i d)
    (λ e. ap other same ∙ h i (omega (arith, below, short)) (ap test (sym same) ∙ e))))) in
    omega (arith, each, sum_by-take-le (weight other) ms k)

-- all moments of a test that fails from a place on count no more than the first ones of a wider test
pub le-take : (test other : Moment → Bool) (ms : List Moment) (k : ℕ) (d : Moment) → k ≤ length ms
    → ((m : Moment) → test m ≡ true → other m ≡ true)
    → ((i : ℕ) → k ≤ i → i < length ms → test (get_or ms i d) ≡ false)
    → sum_by (weight test) ms ≤ sum_by (weight other) (take k ms)
le-take test other ms k d within wider none =
    let each = sum_by-le-all (weight test) (weight other) (take k ms)
    (All-from_get_or (λ (m : Moment). weight test m ≤ weight other m) (take k ms) d
    (λ i below. weight-le test other (get_or (take k ms) i d) (wider (get_or (take k ms) i d)))) in
    let rest = sum_by-none (weight test) (drop k ms)
    (All-from_get_or (λ (m : Moment). weight test m ≤ 0) (drop k ms) d
    (λ i below. (
    let inside : k + i < length ms = omega (arith, below, length-drop k ms) in
    let same = get_or-drop k ms i d in
    let fails = cond-false (test (get_or (drop k ms) i d)) (get_or (drop k ms) i d).bits 0
    (ap test same ∙ none (k + i) (omega arith) inside) in
    omega (arith, fails)))) in
    omega (arith, each, rest, sum_by-take-drop (weight test) ms k)
