use Rattle.std.specs.Prelude.{◌≡◌, ℕ, ◌==◌, ◌&&◌, List, [], ◌∷◌, slice_index, if◌then◌else◌}
use Rattle.std.specs.List.{onto_first}
use Rattle.ats_io.specs.Text.{lines_of}

-- the lines of a text, by its first byte: an LF ends a line, a CR right in front of an LF is of no line, and any other
-- byte is the first of the line that follows it, a line of its own where nothing does
pub record TextLinesAreRead : Type 0 where
  pub more : (b : ℕ) (text : List ℕ) → lines_of (b ∷ text)
      ≡ (if b == 10 then [] ∷ lines_of text
      else if b == 13 && slice_index text 0 == 10 then lines_of text
      else onto_first b (lines_of text))
