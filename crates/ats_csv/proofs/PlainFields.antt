-- Fields that hold a name or a number are plain.
use Rattle.std.proofs.Common.{◌≡◌, ◌∙◌, ℕ, ◌<◌, ◌^◌, Bool, true, false, cond, ◌&&◌, List, [], ◌∷◌, length, None}
use Rattle.std.proofs.Common.{Some, refl, sym, ap, arith}
use Rattle.std.specs.Prelude.{IsTrue, decimal, not, nat_le}
use Rattle.std.specs.List.{All, list_all}
use Rattle.std.specs.Char.{is_ascii_digit}
use Rattle.std.proofs.lemmas.Bool.{and_parts, false≢true}
use Rattle.std.proofs.lemmas.Bool.Decides.{nat_tests}
use Rattle.std.proofs.lemmas.List.Elements.{All-cons, All-nil}
use Rattle.ats_num.specs.Name.{is_name, is_name_byte}
use Rattle.ats_num.specs.Number.{has_needless_zero, is_number, value_of}
use Rattle.ats_num.proofs.Decimal.{reads_back}
use Rattle.ats_csv.specs.Plain.{IsPlainByte}

-- a byte of a name is plain, and so is a digit
name_byte : (c : ℕ) → is_name_byte c ≡ true → IsPlainByte c
name_byte c h = record {
  ascii = grind (arith, nat_tests);
  no_comma = λ e. false≢true (ap is_name_byte (sym e) ∙ h);
  no_quote = λ e. false≢true (ap is_name_byte (sym e) ∙ h);
  no_return = λ e. false≢true (ap is_name_byte (sym e) ∙ h);
  no_feed = λ e. false≢true (ap is_name_byte (sym e) ∙ h);
}

digit_byte : (c : ℕ) → is_ascii_digit c ≡ true → IsPlainByte c
digit_byte c h = record {
  ascii = grind (arith, nat_tests);
  no_comma = λ e. false≢true (ap is_ascii_digit (sym e) ∙ h);
  no_quote = λ e. false≢true (ap is_ascii_digit (sym e) ∙ h);
  no_return = λ e. false≢true (ap is_ascii_digit (sym e) ∙ h);
  no_feed = λ e. false≢true (ap is_ascii_digit (sym e) ∙ h);
}

-- bytes that pass a test are plain, where those that do are
all_plain : (test : ℕ → Bool) → ((c : ℕ) → test c ≡ true → IsPlainByte c) → (text : List ℕ) → list_all test text ≡ true
    → All IsPlainByte text
all_plain test plain [] h = All-nil IsPlainByte
all_plain test plain (c ∷ text) h =
    let parts = and_parts (test c) (list_all test text) h in
    All-cons IsPlainByte c text (plain c parts.0) (all_plain test plain text parts.1)

-- so names are plain
pub plain_name : (text : List ℕ) → IsTrue (is_name text) → All IsPlainByte text
plain_name text h = all_plain is_name_byte name_byte text
    (and_parts (nat_le 1 (length text) && nat_le (length text) 32) (list_all is_name_byte text) h).1

-- and numbers of at most 36 digits
pub plain_number : (n : ℕ) → n < 10 ^ 36 → All IsPlainByte (decimal n)
plain_number n few =
    all_plain is_ascii_digit digit_byte (decimal n) (by (is_number (decimal n)) refl (reads_back n few))
  where
    by : (b : Bool) → is_number (decimal n) ≡ b → cond b (Some (value_of (decimal n))) None ≡ Some n
        → list_all is_ascii_digit (decimal n) ≡ true
    by true e g = (and_parts (nat_le 1 (length (decimal n)) && nat_le (length (decimal n)) 36
        && not (has_needless_zero (decimal n))) (list_all is_ascii_digit (decimal n)) e).1
    by false e g = cc g

-- and fields that are bytes of names alone
pub plain_words : (fields : List (List ℕ)) → list_all (λ text. list_all is_name_byte text) fields ≡ true
    → All (All IsPlainByte) fields
plain_words [] h = All-nil (All IsPlainByte)
plain_words (field ∷ fields) h =
    let parts = and_parts (list_all is_name_byte field) (list_all (λ text. list_all is_name_byte text) fields) h in
    All-cons (All IsPlainByte) field fields (all_plain is_name_byte name_byte field parts.0)
    (plain_words fields parts.1)
