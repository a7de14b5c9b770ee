use Rattle.std.specs.Prelude.{◌≡◌, ℕ, ◌+◌, ◌-◌, ◌*◌, not, ◌&&◌, ◌||◌, ◌==◌, nat_le, List, length, slice_index, fold}
use Rattle.std.specs.Prelude.{Some, None, if◌then◌else◌}
use Rattle.std.specs.List.{list_all}
use Rattle.std.specs.Char.{is_ascii_alphanumeric, is_ascii_digit}
use Rattle.ats_num.specs.Name.{is_name, name_of}
use Rattle.ats_num.specs.Number.{number_of, value_of}
use Rattle.ats_num.specs.Wire.{bits_of}

-- Which texts are names and numbers, written out for all texts.

-- a name is any text of 1 to 32 letters, digits and signs. Refuses a rule beside these, as that no two signs stand
-- together, or that a name is no number
pub record NamesAreAny : Type 0 where
  pub test : (text : List ℕ) → is_name text
      ≡ (nat_le 1 (length text) && nat_le (length text) 32
      && list_all (λ c. is_ascii_alphanumeric c || c == 95 || c == 45) text)
  pub name : (text : List ℕ) → name_of text ≡ (if is_name text then Some text else None)

-- a number is any text of 1 to 36 digits, but for those with a needless 0 in front, and each digit counts ten times the
-- next one; and a frame's bits are those of 20 octets more
pub record NumbersAreAny : Type 0 where
  pub value : (digits : List ℕ) → value_of digits ≡ fold (λ value digit. value * 10 + (digit - 48)) 0 digits
  pub number : (text : List ℕ) → number_of text
      ≡ (if nat_le 1 (length text) && nat_le (length text) 36
      && not (slice_index text 0 == 48 && not (length text == 1)) && list_all is_ascii_digit text
      then Some (value_of text) else None)
  pub bits : (octets : ℕ) → bits_of octets ≡ 8 * (octets + 20)

pub record NamesAndNumbersAreMeant : Type 0 where
  pub names : NamesAreAny
  pub numbers : NumbersAreAny
