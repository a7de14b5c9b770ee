use Rattle.std.proofs.Common.{◌≡◌, ◌≢◌, ℕ, suc, ◌+◌, ◌-◌, ◌*◌, ◌/◌, ◌%◌, ◌<◌, ◌≤◌, ◌^◌, Bool, true, false, List, []}
use Rattle.std.proofs.Common.{◌∷◌, ◌++◌, length, Some, None, refl, sym, ◌∙◌, ap, arith, lit<, append-nil, append_assoc}
use Rattle.std.specs.Prelude.{decimal, fold, if◌then◌else◌}
use Rattle.std.specs.List.{list_all}
use Rattle.std.specs.Char.{is_ascii_digit}
use Rattle.std.proofs.lemmas.Bool.{and_parts}
use Rattle.std.proofs.lemmas.Bool.Decides.{nat_tests}
use Rattle.std.proofs.lemmas.Fmt.{decimal_digit, decimal_step_wide}
use Rattle.std.proofs.Math.Nat.{mul-le-mul_right, pow-le-pow_right, pow-suc}
use Rattle.std.proofs.lemmas.Option.{none-some, same_Some}
use Rattle.ats_num.specs.Number.{has_needless_zero, is_number, value_of}
use Rattle.ats_exact_examples.specs.Only.{NumbersAreWritten}

-- Numbers are what is written of them.

-- what digits stand for behind a number
abbrev value_behind : ℕ → List ℕ → ℕ
value_behind n digits = fold (λ value digit. value * 10 + (digit - 48)) n digits

digit_least : (c : ℕ) → is_ascii_digit c ≡ true → 48 ≤ c
digit_least c h = grind (arith, nat_tests)

digit_most : (c : ℕ) → is_ascii_digit c ≡ true → c ≤ 57
digit_most c h = grind (arith, nat_tests)

-- the first and the others
digit_parts : (c : ℕ) (cs : List ℕ) → list_all is_ascii_digit (c ∷ cs) ≡ true
    → (is_ascii_digit c ≡ true) × (list_all is_ascii_digit cs ≡ true)
digit_parts c cs h = and_parts (is_ascii_digit c) (list_all is_ascii_digit cs) h

at_least : (n : ℕ) (cs : List ℕ) → n ≤ value_behind n cs
at_least n [] = omega arith
at_least n (c ∷ cs) = omega (arith, at_least (n * 10 + (c - 48)) cs)

-- so many digits behind a number
below : (n : ℕ) (cs : List ℕ) → list_all is_ascii_digit cs ≡ true → value_behind n cs < (n + 1) * 10 ^ length cs
below n [] h = omega arith
below n (c ∷ cs) h =
    let least : 48 ≤ c = digit_least c (digit_parts c cs h).0 in
    let most : c ≤ 57 = digit_most c (digit_parts c cs h).0 in
    let rest : value_behind (n * 10 + (c - 48)) cs < (n * 10 + (c - 48) + 1) * 10 ^ length cs
    = below (n * 10 + (c - 48)) cs (digit_parts c cs h).1 in
    let wide : (n * 10 + (c - 48) + 1) * 10 ^ length cs ≤ ((n + 1) * 10) * 10 ^ length cs
    = mul-le-mul_right (10 ^ length cs) (let fits : n * 10 + (c - 48) + 1 ≤ (n + 1) * 10 = omega arith in fits) in
    let power : 10 ^ suc (length cs) ≡ 10 ^ length cs * 10 = pow-suc 10 (length cs) in
    omega (arith, rest, wide, ap (λ p. (n + 1) * p) power)

-- digits behind a number that is not 0 are written behind it
written_behind : (n : ℕ) (cs : List ℕ) → 0 < n → list_all is_ascii_digit cs ≡ true → value_behind n cs < 10 ^ 64
    → decimal (value_behind n cs) ≡ decimal n ++ cs
written_behind n [] some h small = sym (append-nil (decimal n))
written_behind n (c ∷ cs) some h small =
    let m : ℕ = n * 10 + (c - 48) in
    let least : 48 ≤ c = digit_least c (digit_parts c cs h).0 in
    let most : c ≤ 57 = digit_most c (digit_parts c cs h).0 in
    let front : m / 10 ≡ n = omega arith in
    let end : 48 + m % 10 ≡ c = omega arith in
    written_behind m cs (omega arith) (digit_parts c cs h).1 small
    ∙ ap (λ x. x ++ cs) (decimal_step_wide m (omega arith) (omega (arith, at_least m cs))
    ∙ (λ i. decimal (front i) ++ (end i ∷ [])))
    ∙ append_assoc (decimal n) (c ∷ []) cs

-- digits without a needless 0 are what is written of their value
written : (text : List ℕ) → list_all is_ascii_digit text ≡ true → has_needless_zero text ≡ false → 0 < length text
    → value_of text < 10 ^ 64 → decimal (value_of text) ≡ text
written [] h first some small = absurd (omega arith)
written (c ∷ []) h first some small =
    let least : 48 ≤ c = digit_least c (digit_parts c [] h).0 in
    let most : c ≤ 57 = digit_most c (digit_parts c [] h).0 in
    decimal_digit (0 * 10 + (c - 48)) (omega arith) ∙ ap (λ x. x ∷ []) (omega arith)
written (c ∷ e ∷ cs) h first some small =
    let least : 48 ≤ c = digit_least c (digit_parts c (e ∷ cs) h).0 in
    let most : c ≤ 57 = digit_most c (digit_parts c (e ∷ cs) h).0 in
    let no : c ≢ 48 = grind (arith, nat_tests, first) in
    let is : 48 + (0 * 10 + (c - 48)) ≡ c = omega arith in
    written_behind (0 * 10 + (c - 48)) (e ∷ cs) (omega (arith, no)) (digit_parts c (e ∷ cs) h).1 small
    ∙ ap (λ x. x ++ (e ∷ cs)) (decimal_digit (0 * 10 + (c - 48)) (omega arith) ∙ ap (λ x. x ∷ []) is)

-- what the test of numbers says
record IsWritten (text : List ℕ) : Type 0 where
  some : 0 < length text
  short : length text ≤ 36
  zero : has_needless_zero text ≡ false
  digits : list_all is_ascii_digit text ≡ true

tested : (text : List ℕ) → is_number text ≡ true → IsWritten text
tested text h = record {
  some = grind (arith, nat_tests);
  short = grind (arith, nat_tests);
  zero = grind (arith, nat_tests);
  digits = grind (arith, nat_tests);
}

written_number : (text : List ℕ) → IsWritten text → decimal (value_of text) ≡ text
written_number text w =
    let most : 10 ^ length text ≤ 10 ^ 36 = pow-le-pow_right (lit< tt) {j = 36} w.short in
    let small : value_of text < (0 + 1) * 10 ^ length text = below 0 text w.digits in
    written text w.digits w.zero w.some (omega (arith, most, small))

pub numbers_are_written : NumbersAreWritten
numbers_are_written text n h = by (is_number text) refl h
  where
    by : (b : Bool) → is_number text ≡ b → (if b then Some (value_of text) else None) ≡ Some n → text ≡ decimal n
    by true passed found =
        let same : value_of text ≡ n = same_Some (value_of text) n found in
        sym (written_number text (tested text passed)) ∙ ap decimal same
    by false failed found = absurd (none-some n found)
