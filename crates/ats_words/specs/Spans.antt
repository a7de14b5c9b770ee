use Rattle.std.specs.Prelude.{◌≡◌, ℕ, ◌≤◌, List, length, map, take, slice_range, All}
use Rattle.ats_io.specs.Text.{words_of}
use Rattle.ats_words.specs.declared.word_line.Span.{Span}

-- the bytes of a line from one place to another
abbrev pub piece : List ℕ → Span → List ℕ
piece line span = slice_range line span.begin span.end

-- both places are within so many bytes, the end not before the beginning
pub record IsWithin (size : ℕ) (span : Span) : Type 0 where
  pub ordered : span.begin ≤ span.end
  pub within : span.end ≤ size

-- so many spans at the front of a list cut out the words of a line, as far as the first 11
pub record AreSpans (line : List ℕ) (spans : List Span) (count : ℕ) : Type 0 where
  pub words : map (piece line) (take count spans) ≡ take 11 (words_of line)
  pub within : All (IsWithin (length line)) spans
  pub room : length spans ≡ 11
  pub few : count ≤ 11
