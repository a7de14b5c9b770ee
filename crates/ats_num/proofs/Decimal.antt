use Rattle.std.proofs.Common.{◌≡◌, ℕ, ◌+◌, ◌-◌, ◌*◌, ◌/◌, ◌%◌, ◌^◌, ◌<◌, ◌≤◌, true, List, [], ◌∷◌, ◌++◌, length, get_or}
use Rattle.std.proofs.Common.{refl, ◌∙◌, arith, lit<, length-append}
use Rattle.std.specs.Prelude.{decimal}
use Rattle.std.specs.List.{list_all}
use Rattle.std.specs.Char.{is_ascii_digit}
use Rattle.std.proofs.lemmas.List.Folds.{list_all-append}
use Rattle.std.proofs.lemmas.List.{get_or_append_left}
use Rattle.std.proofs.lemmas.List.Sums.{fold-append}
use Rattle.std.proofs.lemmas.Bool.Decides.{nat_tests}
use Rattle.std.proofs.lemmas.Fmt.{decimal_by_steps_wide, length-decimal-le_wide}
use Rattle.ats_num.specs.Number.{value_of}
use Rattle.ats_num.specs.ReadsBack.{ReadsBack}

-- digits that write n, with no needless zero
record Writes (n : ℕ) (ds : List ℕ) : Type 0 where
  digits : list_all is_ascii_digit ds ≡ true
  value : value_of ds ≡ n
  some : 0 < length ds
  lone : n < 10 → length ds ≡ 1
  first : 0 < n → 48 < get_or ds 0 0

digit : (n : ℕ) → n < 10 → is_ascii_digit (48 + n) ≡ true
digit n h = grind (arith, nat_tests)

one_digit : (n : ℕ) → n < 10 → Writes n ((48 + n) ∷ [])
one_digit n h = record {
  digits = grind (arith, nat_tests);
  value = omega arith;
  some = lit< tt;
  lone = λ _. refl;
  first = λ positive. omega arith;
}

more_digits : (n : ℕ) (ds : List ℕ) → 10 ≤ n → Writes (n / 10) ds → Writes n (ds ++ ((48 + n % 10) ∷ []))
more_digits n ds h w =
    let last : is_ascii_digit (48 + n % 10) ≡ true = digit (n % 10) (omega arith) in
    let some : 0 < length ds = w.some in
    record {
      digits = list_all-append is_ascii_digit ds _ ∙ grind (arith, nat_tests);
      value = fold-append (λ value digit. value * 10 + (digit - 48)) 0 ds _ ∙ rw w.value (omega arith);
      some = omega (arith, length-append ds ((48 + n % 10) ∷ []));
      lone = λ small. absurd (omega arith);
      first = λ positive. rw (get_or_append_left ds ((48 + n % 10) ∷ []) 0 0 some) (w.first (omega arith));
    }

pub reads_back : ReadsBack
reads_back n h = grind (arith, nat_tests, writes n (omega arith), length-decimal-le_wide 36 n (lit< tt) h (omega arith))
  where
    writes : (n : ℕ) → n < 10 ^ 64 → Writes n (decimal n)
    writes = decimal_by_steps_wide Writes one_digit more_digits
