use Rattle.std.specs.Prelude.{ℕ, Bool, ◌||◌, ◌==◌, List, [], length, slice_index, unwrap_or}
use Rattle.std.specs.List.{slice_get}
use Rattle.ats_io.specs.Text.{words_of}

-- the word at a place, counted from 0; no bytes where there is none
abbrev pub word : List (List ℕ) → ℕ → List ℕ
word words k = unwrap_or (slice_get words k) []

-- a line with a comment, or without words
abbrev pub is_skipped : List ℕ → Bool
is_skipped line = slice_index line 0 == 35 || length (words_of line) == 0
