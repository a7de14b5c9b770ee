use Rattle.std.specs.Prelude.{ℕ, ◌+◌, ◌-◌, ◌*◌, Bool, ◌&&◌, ◌==◌, nat_le, List, length, slice_index, Option, Some, None}
use Rattle.std.specs.Prelude.{if◌then◌else◌, not, fold}
use Rattle.std.specs.List.{list_all}
use Rattle.std.specs.Char.{is_ascii_digit}

-- a first digit 0 that does not stand alone
abbrev pub has_needless_zero : List ℕ → Bool
has_needless_zero text = slice_index text 0 == 48 && not (length text == 1)

-- 1 to 36 decimal digits, without sign and without a needless leading 0
abbrev pub is_number : List ℕ → Bool
is_number text =
    nat_le 1 (length text) && nat_le (length text) 36 && not (has_needless_zero text) && list_all is_ascii_digit text

-- what decimal digits stand for, the most significant first
abbrev pub value_of : List ℕ → ℕ
value_of digits = fold (λ value digit. value * 10 + (digit - 48)) 0 digits

-- the number that a text writes, if it writes one
abbrev pub number_of : List ℕ → Option ℕ
number_of text = if is_number text then Some (value_of text) else None
