use Rattle.std.specs.Prelude.{◌≡◌, ℕ, ◌+◌, ◌-◌, ◌^◌, ◌==◌, min, Bool, List, [], length, drop, map, Option, Some}
use Rattle.std.specs.Prelude.{None, option_map}
use Rattle.std.specs.Prelude.{unwrap_or, position, slice_index, String, Vec, string_bytes}
use Rattle.std.specs.List.{find, list_any}
use Rattle.std.specs.Str.{bytes_eq}
use Rattle.std.specs.declared.alloc.Global.{Global}
use Rattle.ats_io.specs.Outside.{IfTold, IsPieceAt}
use Rattle.ats_io.specs.Reads.{Read}

-- files as contracts see them: the bytes of each name beside the bytes of the file
abbrev pub pairs_of : List (String Global × Vec ℕ Global) → List (List ℕ × List ℕ)
pairs_of files = map (λ file. (string_bytes file.0, file.1.items)) files

-- the file has this name
abbrev pub has_name : List ℕ → String Global × Vec ℕ Global → Bool
has_name name file = bytes_eq (string_bytes file.0) name

-- files in memory: their names and bytes, the count of faults of each, the count that all other names share, the number
-- of calls so far, the numbers of the calls that are to fail, and the reads that were made
pub record HeldFiles : Type 0 where
  pub files : List (List ℕ × List ℕ)
  pub counts : List ℕ
  pub others : ℕ
  pub calls : ℕ
  pub fails : List ℕ
  pub reads : List Read

-- files in memory that never fail: their names and bytes, and the reads that were made
pub record SureHeld : Type 0 where
  pub files : List (List ℕ × List ℕ)
  pub reads : List Read

-- a sink in memory: its bytes, how many there may be, how many it takes a call at most, the numbers of the calls that
-- are to fail, the number of calls so far, and the count of faults
pub record HeldText : Type 0 where
  pub bytes : List ℕ
  pub room : ℕ
  pub most : ℕ
  pub fails : List ℕ
  pub calls : ℕ
  pub raised : ℕ

-- the file has this name
abbrev pub is_named : List ℕ → List ℕ × List ℕ → Bool
is_named name file = bytes_eq file.0 name

-- the bytes that a list of files holds under a name: those of the first file of that name, if there is one
abbrev pub bytes_of : List (List ℕ × List ℕ) → List ℕ → Option (List ℕ)
bytes_of files name = option_map (λ file. file.1) (find (is_named name) files)

-- the same, and no bytes where no file has the name
abbrev pub bytes_or_none : List (List ℕ × List ℕ) → List ℕ → List ℕ
bytes_or_none files name = unwrap_or (bytes_of files name) []

-- a read of so many bytes gives a piece of what the files hold under the name, from a place on
abbrev pub ReadsPiece : List (List ℕ × List ℕ) → List ℕ → ℕ → ℕ → List ℕ → Type 0
ReadsPiece files name at count buffer = IfTold (bytes_of files name) (λ bytes. IsPieceAt bytes at count buffer)

-- it gives all of it, as far as the buffer has room
abbrev pub ReadsAll : List (List ℕ × List ℕ) → List ℕ → ℕ → ℕ → List ℕ → Type 0
ReadsAll files name at count buffer =
    IfTold (bytes_of files name) (λ bytes. count ≡ min (length buffer) (length (drop at bytes)))

-- the count at a place, and the common count at no place
abbrev pub count_at : List ℕ → ℕ → Option ℕ → ℕ
count_at counts others None = others
count_at counts others (Some place) = slice_index counts place

-- the count of faults of a name: each file has its own, and the names of no file share one
abbrev pub count_of : List (List ℕ × List ℕ) → List ℕ → ℕ → List ℕ → ℕ
count_of files counts others name = count_at counts others (position (is_named name) files)

-- one more, in a counter that stays at the last value of 64 bits
abbrev pub next_count : ℕ → ℕ
next_count count = min (count + 1) (2 ^ 64 - 1)

-- a call of this number is among the ones that are to fail
abbrev pub is_planned : List ℕ → ℕ → Bool
is_planned fails call = list_any (λ number. number == call) fails
