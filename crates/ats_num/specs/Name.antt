use Rattle.std.specs.Prelude.{◌≡◌, ℕ, ◌-◌, Bool, true, ◌&&◌, ◌||◌, ◌==◌, nat_le, List, ◌++◌, length, take, replicate}
use Rattle.std.specs.Prelude.{Option, Some, None, if◌then◌else◌}
use Rattle.std.specs.List.{list_all}
use Rattle.std.specs.Char.{is_ascii_alphanumeric}

-- an ASCII letter, a digit, `_` or `-`
abbrev pub is_name_byte : ℕ → Bool
is_name_byte c = is_ascii_alphanumeric c || c == 95 || c == 45

-- 1 to 32 such bytes
abbrev pub is_name : List ℕ → Bool
is_name text = nat_le 1 (length text) && nat_le (length text) 32 && list_all is_name_byte text

-- the name that a text writes, if it writes one
abbrev pub name_of : List ℕ → Option (List ℕ)
name_of text = if is_name text then Some text else None

-- a name's bytes, and zeros up to 32
abbrev pub padded : List ℕ → List ℕ
padded name = name ++ replicate (32 - length name) 0

-- an array of 32 bytes has a name of this size at its front, and zeros behind it
pub record IsPadded (text : List ℕ) (size : ℕ) : Type 0 where
  pub name : is_name (take size text) ≡ true
  pub whole : text ≡ padded (take size text)
  pub sized : length (take size text) ≡ size
