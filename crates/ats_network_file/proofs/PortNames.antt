-- A name of at most 26 bytes with `-` and the number of a port behind it is a name.
use Rattle.std.proofs.Common.{◌≡◌, ℕ, ◌+◌, ◌<◌, ◌≤◌, ◌^◌, ◌%◌, true, List, [], ◌∷◌, ◌++◌, length, ap, ◌∙◌, arith}
use Rattle.std.proofs.Common.{length-append}
use Rattle.std.specs.Prelude.{◌&&◌, IsTrue, codes, decimal, nat_le}
use Rattle.std.specs.List.{list_all}
use Rattle.std.proofs.lemmas.Bool.{and_parts, le-leb, leb-true}
use Rattle.std.proofs.lemmas.Bool.Decides.{nat_tests}
use Rattle.std.proofs.lemmas.Fmt.{decimal_by_steps_wide, length-decimal-le_wide}
use Rattle.std.proofs.lemmas.List.Folds.{list_all-append}
use Rattle.ats_num.specs.Name.{is_name, is_name_byte}
use Rattle.ats_network_toml.specs.Document.{IsShortName}
use Rattle.ats_network_file.specs.LinkLocal.{name_at}

-- a digit may be in a name
digit_byte : (n : ℕ) → n < 10 → is_name_byte (48 + n) ≡ true
digit_byte n h = grind (arith, nat_tests, h)

digits_bytes : (n : ℕ) → n < 10 ^ 64 → list_all is_name_byte (decimal n) ≡ true
digits_bytes = decimal_by_steps_wide (λ n ds. list_all is_name_byte ds ≡ true)
    (λ n h. ap (λ b. b && true) (digit_byte n h))
    (λ n ds h before. list_all-append is_name_byte ds ((48 + n % 10) ∷ [])
    ∙ ap (λ b. b && list_all is_name_byte ((48 + n % 10) ∷ [])) before
    ∙ ap (λ b. b && true) (digit_byte (n % 10) (omega arith)))

-- so is the whole name
pub name_at_port : (name : List ℕ) (number : ℕ) → IsTrue (is_name name) → IsShortName name → number < 10000
    → is_name (name_at name number) ≡ true
name_at_port name number is short small =
    let parts = and_parts (nat_le 1 (length name) && nat_le (length name) 32) (list_all is_name_byte name) is in
    let some = and_parts (nat_le 1 (length name)) (nat_le (length name) 32) parts.0 in
    let digits : length (decimal number) ≤ 4 = length-decimal-le_wide 4 number (omega arith) (omega arith)
    (omega arith) in
    let text : List ℕ = name_at name number in
    let long : length text ≡ length name + (1 + length (decimal number)) =
    length-append (name ++ codes "-") (decimal number)
    ∙ ap (λ (n : ℕ). n + length (decimal number)) (length-append name (codes "-")) ∙ omega arith in
    let bytes : list_all is_name_byte text ≡ true =
    list_all-append is_name_byte (name ++ codes "-") (decimal number)
    ∙ ap (λ b. b && list_all is_name_byte (decimal number)) (list_all-append is_name_byte name (codes "-")
    ∙ ap (λ b. b && true) parts.1)
    ∙ digits_bytes number (omega arith) in
    ap (λ b. (b && nat_le (length text) 32) && list_all is_name_byte text)
    (le-leb 1 (length text) (omega (arith, long, leb-true 1 (length name) some.0)))
    ∙ ap (λ b. b && list_all is_name_byte text) (le-leb (length text) 32 (omega (arith, long, short, digits)))
    ∙ bytes
