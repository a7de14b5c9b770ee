use Rattle.std.proofs.Common.{◌≡◌, ◌∙◌, ℕ, ◌<◌, ◌≤◌, ◌^◌, Bool, true, false, ◌||◌, List, take, drop, Some}
use Rattle.std.proofs.Common.{None}
use Rattle.std.proofs.Common.{refl, ap, subst, arith, decimal}
use Rattle.std.specs.Prelude.{Option, codes, nat_lt, if◌then◌else◌}
use Rattle.std.specs.Option.{option_and_then}
use Rattle.std.specs.Str.{bytes_eq}
use Rattle.std.proofs.lemmas.Bool.Decides.{nat_tests}
use Rattle.std.proofs.lemmas.Option.{none-some, same_Some}
use Rattle.ats_num.specs.Number.{number_of}
use Rattle.ats_num.proofs.Decimal.{reads_back}
use Rattle.ats_trace.specs.declared.run.TheConstants.{MAX_FRAMES}
use Rattle.ats_command_input.specs.Making.{count_named, seed_named}
use Rattle.ats_command_input.specs.Order.{mixed_by, mixed_named, order_named}
use Rattle.ats_command_input.specs.declared.making.TheConstants.{MAX_SEED}
use Rattle.ats_command_input.specs.declared.order.Order.{Order}
use Rattle.ats_command_input.specs.declared.order.Order.TheVariants.{Early, Late, Mixed}
use Rattle.ats_exact_examples.specs.Only.{order_text}
use Rattle.ats_exact_examples.specs.Worded.{IsOrder, WordsAreNumbers}
use Rattle.ats_exact_examples.proofs.NumberProofs.{numbers_are_written}
use Rattle.ats_exact_examples.proofs.OnlyProofs.{nothing_else_is_read}

-- Numbers by their tests, one way and the other.

not_above : (a b : ℕ) → nat_lt a b ≡ false → b ≤ a
not_above a b h = grind (arith, nat_tests)

is_within : (a b : ℕ) → b ≤ a → nat_lt a b ≡ false
is_within a b h = grind (arith, nat_tests)

-- what a text writes, where it has to pass a test
record Written (word : List ℕ) (over : ℕ → Bool) (n : ℕ) : Type 0 where
  pub text : word ≡ decimal n
  pub within : over n ≡ false

written : {A : Type 0} (word : List ℕ) (over : ℕ → Bool) (made : ℕ → A) (P : A → Type 0)
    → ((n : ℕ) → Written word over n → P (made n))
    → (x : A) → option_and_then (λ n. if over n then None else Some (made n)) (number_of word) ≡ Some x → P x
written {A} word over made P each x h = by (number_of word) refl h
  where
    by : (o : Option ℕ) → number_of word ≡ o
        → option_and_then (λ n. if over n then None else Some (made n)) o ≡ Some x → P x
    by None e found = absurd (none-some x found)
    by (Some n) e found = test (over n) refl found
      where
        test : (b : Bool) → over n ≡ b → (if b then None else Some (made n)) ≡ Some x → P x
        test true o none = absurd (none-some x none)
        test false o some =
            subst P (same_Some (made n) x some)
            (each n (record { text = numbers_are_written word n e; within = o }))

read : {A : Type 0} (word : List ℕ) (over : ℕ → Bool) (made : ℕ → A) (n : ℕ) → word ≡ decimal n → n < 10 ^ 36
    → over n ≡ false → option_and_then (λ n. if over n then None else Some (made n)) (number_of word) ≡ Some (made n)
read {A} word over made n is small within =
    ap (λ (w : List ℕ). option_and_then by (number_of w)) is
    ∙ ap (λ (o : Option ℕ). option_and_then by o) (reads_back n small)
    ∙ ap (λ (b : Bool). test b) within
  where
    test : Bool → Option A
    test b = if b then None else Some (made n)

    by : ℕ → Option A
    by n = if over n then None else Some (made n)

-- seeds and counts
seed_given : (word : List ℕ) (n : ℕ) → seed_named word ≡ Some n → (word ≡ decimal n) × (n < 2 ^ 64)
seed_given word n h =
    written word (λ n. nat_lt MAX_SEED n) (λ n. n) (λ n. (word ≡ decimal n) × (n < 2 ^ 64)) each n h
  where
    each : (n : ℕ) → Written word (λ n. nat_lt MAX_SEED n) n → (word ≡ decimal n) × (n < 2 ^ 64)
    each n w = let most : n ≤ 18446744073709551615 = not_above MAX_SEED n w.within in (w.text, omega (arith, most))

seed_taken : (word : List ℕ) (n : ℕ) → (word ≡ decimal n) × (n < 2 ^ 64) → seed_named word ≡ Some n
seed_taken word n is =
    let few : n < 2 ^ 64 = is.1 in
    let most : n ≤ 18446744073709551615 = omega (arith, few) in
    read word (λ n. nat_lt MAX_SEED n) (λ n. n) n is.0 (omega (arith, few)) (is_within MAX_SEED n most)

abbrev over_count : ℕ → Bool
over_count n = nat_lt n 1 || nat_lt MAX_FRAMES n

count_given : (word : List ℕ) (n : ℕ) → count_named word ≡ Some n → (word ≡ decimal n) × (1 ≤ n) × (n ≤ 200000)
count_given word n h = written word over_count (λ n. n) (λ n. (word ≡ decimal n) × (1 ≤ n) × (n ≤ 200000)) each n h
  where
    parts : (n : ℕ) (a b : Bool) → nat_lt n 1 ≡ a → nat_lt MAX_FRAMES n ≡ b → (a || b) ≡ false
        → (1 ≤ n) × (n ≤ 200000)
    parts n false false least most h = (not_below n least, not_above MAX_FRAMES n most)
      where
        not_below : (n : ℕ) → nat_lt n 1 ≡ false → 1 ≤ n
        not_below n h = grind (arith, nat_tests)
    parts n false true least most h = cc h
    parts n true b least most h = cc h

    each : (n : ℕ) → Written word over_count n → (word ≡ decimal n) × (1 ≤ n) × (n ≤ 200000)
    each n w =
        let within = parts n (nat_lt n 1) (nat_lt MAX_FRAMES n) refl refl w.within in
        (w.text, within.0, within.1)

count_taken : (word : List ℕ) (n : ℕ) → (word ≡ decimal n) × (1 ≤ n) × (n ≤ 200000) → count_named word ≡ Some n
count_taken word n is =
    let some : 1 ≤ n = is.1 in
    let few : n ≤ 200000 = is.2 in
    read word over_count (λ n. n) n is.0 (omega (arith, few)) (both n some few)
  where
    above : (n : ℕ) → 1 ≤ n → nat_lt n 1 ≡ false
    above n h = grind (arith, nat_tests)

    both : (n : ℕ) → 1 ≤ n → n ≤ 200000 → over_count n ≡ false
    both n some few =
        ap (λ (b : Bool). b || nat_lt MAX_FRAMES n) (above n some) ∙ is_within MAX_FRAMES n few

-- orders
is_mixed : (text : List ℕ) (order : Order) → option_and_then mixed_by (number_of text) ≡ Some order → IsOrder order
is_mixed text order h = written text (λ n. nat_lt 4294967295 n) Mixed IsOrder each order h
  where
    each : (n : ℕ) → Written text (λ n. nat_lt 4294967295 n) n → n < 2 ^ 32
    each n w = let most : n ≤ 4294967295 = not_above 4294967295 n w.within in omega (arith, most)

mixed_given : (word : List ℕ) (order : Order) → mixed_named word ≡ Some order → IsOrder order
mixed_given word order h = by (bytes_eq (take 6 word) (codes "mixed:")) h
  where
    by : (b : Bool) → (if b then option_and_then mixed_by (number_of (drop 6 word)) else None) ≡ Some order
        → IsOrder order
    by true h = is_mixed (drop 6 word) order h
    by false h = absurd (none-some order h)

order_given : (word : List ℕ) (order : Order) → order_named word ≡ Some order → IsOrder order
order_given word order h = by (bytes_eq word (codes "early")) h
  where
    late : (b : Bool) → (if b then Some Late else mixed_named word) ≡ Some order → IsOrder order
    late true h = subst IsOrder (same_Some Late order h) tt
    late false h = mixed_given word order h

    by : (b : Bool)
        → (if b then Some Early else if bytes_eq word (codes "late") then Some Late else mixed_named word) ≡ Some order
        → IsOrder order
    by true h = subst IsOrder (same_Some Early order h) tt
    by false h = late (bytes_eq word (codes "late")) h

order_read : (order : Order) → IsOrder order → order_named (order_text order) ≡ Some order
order_read Early is = refl
order_read Late is = refl
order_read (Mixed n) is =
    let few : n < 2 ^ 32 = is in
    let most : n ≤ 4294967295 = omega (arith, few) in
    read (decimal n) (λ n. nat_lt 4294967295 n) Mixed n refl (omega (arith, few)) (is_within 4294967295 n most)

order_taken : (word : List ℕ) (order : Order) → (word ≡ order_text order) × IsOrder order
    → order_named word ≡ Some order
order_taken word order is = ap order_named is.0 ∙ order_read order is.1

pub words_are_numbers : WordsAreNumbers
words_are_numbers = record {
  order = λ word order.
      (λ h. (nothing_else_is_read.orders word order h, order_given word order h), order_taken word order);
  seed = λ word n. (seed_given word n, seed_taken word n);
  count = λ word n. (count_given word n, count_taken word n);
}
