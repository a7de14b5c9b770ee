use Rattle.std.specs.Prelude.{ℕ, not, ◌==◌, List, length, filter}
use Rattle.std.specs.List.{slice_split}
use Rattle.std.specs.Str.Lines.{lines}

-- the lines of a text, cut at LF: a CR directly before an LF is not of the line, a last line without LF counts and
-- keeps its CR, and an empty text has no line
abbrev pub lines_of : List ℕ → List (List ℕ)
lines_of text = lines text

-- the words of a line: the pieces between spaces that are not empty
abbrev pub words_of : List ℕ → List (List ℕ)
words_of line = filter (λ piece. not (length piece == 0)) (slice_split (λ b. b == 32) line)
