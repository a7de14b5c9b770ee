use Rattle.std.specs.Prelude.{◌≡◌, ℕ, ◌==◌, List, [], ◌∷◌, slice_index_or, if◌then◌else◌}
use Rattle.std.specs.List.{onto_first}
use Rattle.ats_io.specs.Text.{words_of}

-- the words of a line, by its first byte: a space is of no word, and any other byte is the first of the word that
-- follows it, a word of its own where nothing or a space does
pub record LineWordsAreRead : Type 0 where
  pub more : (b : ℕ) (line : List ℕ) → words_of (b ∷ line)
      ≡ (if b == 32 then words_of line
      else if slice_index_or line 0 32 == 32 then (b ∷ []) ∷ words_of line
      else onto_first b (words_of line))
