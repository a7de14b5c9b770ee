-- A number that a text writes has at most 36 digits.
use Rattle.std.proofs.Common.{◌≡◌, ℕ, suc, ◌+◌, ◌-◌, ◌*◌, ◌^◌, ◌<◌, ◌≤◌, Bool, true, false, cond, ◌&&◌, Some, None}
use Rattle.std.proofs.Common.{List, [], ◌∷◌, length, refl, arith, lit<}
use Rattle.std.specs.Prelude.{not, nat_le, fold}
use Rattle.std.specs.List.{list_all}
use Rattle.std.specs.Char.{is_ascii_digit}
use Rattle.std.proofs.Math.Nat.{pow-le-pow_right, pow-suc}
use Rattle.std.proofs.lemmas.Bool.{and_parts}
use Rattle.std.proofs.lemmas.Bool.Decides.{nat_tests}
use Rattle.ats_num.specs.Number.{has_needless_zero, is_number, number_of, value_of}

-- what one digit more makes of a value
abbrev step : ℕ → ℕ → ℕ
step value digit = value * 10 + (digit - 48)

digit_most : (d : ℕ) → is_ascii_digit d ≡ true → d ≤ 57
digit_most d h = grind (arith, nat_tests)

-- a value of so many digits, and these behind them
below : (k n acc : ℕ) (digits : List ℕ) → n ≡ k + length digits → list_all is_ascii_digit digits ≡ true → acc < 10 ^ k
    → fold step acc digits < 10 ^ n
below k n acc [] long h l = let same : n ≡ k = omega arith in rw same l
below k n acc (d ∷ digits) long h l =
    let parts = and_parts (is_ascii_digit d) (list_all is_ascii_digit digits) h in
    let most = digit_most d parts.0 in
    let power = pow-suc 10 k in
    below (suc k) n (step acc d) digits (omega arith) parts.1 (more acc d (10 ^ k) (10 ^ suc k) l most power)
  where
    more : (a b p q : ℕ) → a < p → b ≤ 57 → q ≡ p * 10 → step a b < q
    more a b p q low most e = omega arith

pub few_digits : (text : List ℕ) (n : ℕ) → number_of text ≡ Some n → n < 10 ^ 36
few_digits text n h = by (is_number text) refl h
  where
    bounded : (value m : ℕ) → m ≤ 36 → value < 10 ^ m → value < 10 ^ 36
    bounded value m short l = let power : 10 ^ m ≤ 10 ^ 36 = pow-le-pow_right (lit< tt) {j = 36} short in omega arith

    by : (b : Bool) → is_number text ≡ b → cond b (Some (value_of text)) None ≡ Some n → n < 10 ^ 36
    by true e g =
        let value : value_of text ≡ n = cc g in
        let all = and_parts (nat_le 1 (length text) && nat_le (length text) 36 && not (has_needless_zero text))
        (list_all is_ascii_digit text) e in
        let front =
        and_parts (nat_le 1 (length text) && nat_le (length text) 36) (not (has_needless_zero text)) all.0 in
        let size = and_parts (nat_le 1 (length text)) (nat_le (length text) 36) front.0 in
        let short : length text ≤ 36 = grind (arith, nat_tests, size.1) in
        rw (← value)
        (bounded (value_of text) (length text) short (below 0 (length text) 0 text (omega arith) all.1 (lit< tt)))
    by false e g = cc g
