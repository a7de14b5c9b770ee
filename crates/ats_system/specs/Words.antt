use Rattle.std.specs.Prelude.{ℕ, Bool, List, Option, position, String, string_bytes}
use Rattle.std.specs.Str.{bytes_eq}
use Rattle.std.specs.declared.alloc.Global.{Global}
use Rattle.ats_io.specs.Memory.{count_at}

-- the word is this name
abbrev pub is_word : List ℕ → String Global → Bool
is_word name word = bytes_eq (string_bytes word) name

-- the place of the first word that is this name
abbrev pub place_of : List (String Global) → List ℕ → Option ℕ
place_of words name = position (is_word name) words

-- the count of a name: each word has its own, and the names that are no word share one
abbrev pub count_of : List (String Global) → List ℕ → ℕ → List ℕ → ℕ
count_of words counts others name = count_at counts others (place_of words name)
