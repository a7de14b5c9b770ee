use Rattle.std.specs.Prelude.{ℕ, List, Option, Some, None, if◌then◌else◌}
use Rattle.std.specs.List.{list_all}
use Rattle.std.specs.Char.{is_ascii_digit}
use Rattle.ats_num.specs.Number.{value_of}

-- what these bytes stand for, where all are digits
abbrev pub digits_value : List ℕ → Option ℕ
digits_value text = if list_all is_ascii_digit text then Some (value_of text) else None
