use Rattle.std.specs.Prelude.{◌≡◌, ◌⊎◌, ◌↔◌, ℕ, ◌+◌, ◌-◌, ◌<◌, ◌≤◌, Bool, true, false, not, ◌&&◌, ◌==◌, List, ◌∷◌, ◌++◌}
use Rattle.std.specs.Prelude.{length, map, filter, slice_index, codes, Option, None, Some, is_some, is_ok, Ok, Err}
use Rattle.std.specs.Prelude.{unwrap_or, if◌then◌else◌}
use Rattle.std.specs.List.{list_all}
use Rattle.std.specs.Str.{bytes_eq}
use Rattle.ats_num.specs.Number.{number_of}
use Rattle.ats_num.specs.Places.{place_of}
use Rattle.ats_io.specs.Text.{lines_of, words_of}
use Rattle.ats_streams.specs.Fault.{rules_fault}
use Rattle.ats_streams.specs.declared.fault.StreamFault.{StreamFault}
use Rattle.ats_shape.specs.Shape.{DeclaredShape}
use Rattle.ats_words.specs.Words.{word, is_skipped}
use Rattle.ats_shape.specs.Reading.{residence_in, stream_in, frame_in, names_of, shape_of}
use Rattle.ats_shape.specs.declared.shape.ShapeFrame.{ShapeFrame}
use Rattle.ats_shape.specs.declared.fault.ShapeFault.{ShapeFault}
use Rattle.ats_shape.specs.declared.fault.ShapeFault.TheVariants.{BadLine, NameTwice, Stream, UnknownName, TimeBack}
use Rattle.ats_shape.specs.declared.fault.ShapeFault.TheVariants.{Limit}

-- the number of the line that a fault names
abbrev pub line_number : ShapeFault → ℕ
line_number (BadLine n) = n
line_number (NameTwice n) = n
line_number (Stream n fault) = n
line_number (UnknownName n) = n
line_number (TimeBack n) = n
line_number (Limit n) = n

-- a line that begins with the word `stream`, and one that begins with `frame`
abbrev pub is_stream_line : List ℕ → Bool
is_stream_line line = not (is_skipped line) && bytes_eq (word (words_of line) 0) (codes "stream")

abbrev pub is_frame_line : List ℕ → Bool
is_frame_line line = not (is_skipped line) && bytes_eq (word (words_of line) 0) (codes "frame")

-- the number that a word writes; 0 where it writes none
abbrev pub number_in : List (List ℕ) → ℕ → ℕ
number_in words k = unwrap_or (number_of (word words k)) 0

-- the names on the stream lines, in order
abbrev pub names_on : List (List ℕ) → List (List ℕ)
names_on lines = map (λ line. word (words_of line) 1) (filter is_stream_line lines)

-- the arrivals on the frame lines, in order
abbrev pub arrivals_on : List (List ℕ) → List ℕ
arrivals_on lines = map (λ line. number_in (words_of line) 1) (filter is_frame_line lines)

-- the last of these arrivals, 0 before the first
abbrev pub last_of : List ℕ → ℕ
last_of arrivals = slice_index arrivals (length arrivals - 1)

-- line n has the form due behind these lines: the first line that counts is a residence line, each other one a stream
-- line or a frame line, and no stream line comes behind a frame line
abbrev pub has_form : List (List ℕ) → ℕ → List ℕ → Bool
has_form before n line =
    if is_skipped line then true
    else if list_all is_skipped before then is_ok (residence_in n (words_of line))
    else if is_stream_line line then length (arrivals_on before) == 0 && is_ok (stream_in n (words_of line))
    else is_frame_line line && is_ok (frame_in n (words_of line))

-- the first rule that the numbers of a stream line break, if they break one
abbrev pub broken_by : List (List ℕ) → Option StreamFault
broken_by words = rules_fault (number_in words 2) (number_in words 3) (number_in words 4) (number_in words 5)

-- the stream line has its form, and the name of an earlier one
pub record IsNameTwice (before : List (List ℕ)) (n : ℕ) (line : List ℕ) : Type 0 where
  pub form : has_form before n line ≡ true
  pub stream : is_stream_line line ≡ true
  pub named : is_some (place_of (word (words_of line) 1) (names_on before)) ≡ true

-- the stream line has its form and a name of its own
pub record IsNew (before : List (List ℕ)) (n : ℕ) (line : List ℕ) : Type 0 where
  pub form : has_form before n line ≡ true
  pub stream : is_stream_line line ≡ true
  pub new : is_some (place_of (word (words_of line) 1) (names_on before)) ≡ false

-- and its numbers break this rule first
pub record IsBreach (before : List (List ℕ)) (n : ℕ) (line : List ℕ) (fault : StreamFault) : Type 0 where
  pub new : IsNew before n line
  pub broken : broken_by (words_of line) ≡ Some fault

-- the frame line has its form, and a name that no stream line has
pub record IsUnknown (before : List (List ℕ)) (n : ℕ) (line : List ℕ) : Type 0 where
  pub form : has_form before n line ≡ true
  pub frame : is_frame_line line ≡ true
  pub unknown : is_some (place_of (word (words_of line) 2) (names_on before)) ≡ false

-- the frame line has its form, and the name of a stream line
pub record IsKnown (before : List (List ℕ)) (n : ℕ) (line : List ℕ) : Type 0 where
  pub form : has_form before n line ≡ true
  pub frame : is_frame_line line ≡ true
  pub known : is_some (place_of (word (words_of line) 2) (names_on before)) ≡ true

-- and its arrival is before the one of the last frame line
pub record IsTimeBack (before : List (List ℕ)) (n : ℕ) (line : List ℕ) : Type 0 where
  pub known : IsKnown before n line
  pub back : number_in (words_of line) 1 < last_of (arrivals_on before)

-- nothing is wrong with the stream line but that there are 4096 before it
pub record IsStreamPast (before : List (List ℕ)) (n : ℕ) (line : List ℕ) : Type 0 where
  pub new : IsNew before n line
  pub kept : broken_by (words_of line) ≡ None
  pub past : 4096 ≤ length (names_on before)

-- nothing is wrong with the frame line but that there are 200,000 before it
pub record IsFramePast (before : List (List ℕ)) (n : ℕ) (line : List ℕ) : Type 0 where
  pub known : IsKnown before n line
  pub ordered : last_of (arrivals_on before) ≤ number_in (words_of line) 1
  pub past : 200000 ≤ length (arrivals_on before)

-- what each fault says of line n behind these lines
abbrev pub Cause : List (List ℕ) → ℕ → List ℕ → ShapeFault → Type 0
Cause before n line (BadLine _) = has_form before n line ≡ false
Cause before n line (NameTwice _) = IsNameTwice before n line
Cause before n line (Stream _ fault) = IsBreach before n line fault
Cause before n line (UnknownName _) = IsUnknown before n line
Cause before n line (TimeBack _) = IsTimeBack before n line
Cause before n line (Limit _) = IsStreamPast before n line ⊎ IsFramePast before n line

-- the line behind these lines has this fault, which names its number
pub record HasFault (before : List (List ℕ)) (line : List ℕ) (fault : ShapeFault) : Type 0 where
  pub number : line_number fault ≡ length before + 1
  pub cause : Cause before (length before + 1) line fault

-- no line has a fault behind those before it
abbrev pub AreFaultless : List (List ℕ) → Type 0
AreFaultless lines = (before : List (List ℕ)) (line : List ℕ) (after : List (List ℕ)) (fault : ShapeFault)
    → before ++ line ∷ after ≡ lines → HasFault before line fault → ⊥

-- a line has this fault, and no line before it has any
pub record IsFirstFault (lines : List (List ℕ)) (fault : ShapeFault) : Type 0 where
  pub before : List (List ℕ)
  pub line : List ℕ
  pub after : List (List ℕ)
  pub cut : before ++ line ∷ after ≡ lines
  pub faultless : AreFaultless before
  pub found : HasFault before line fault

-- no line counts, so that the line after the last is at fault
pub record IsWithoutResidence (lines : List (List ℕ)) (fault : ShapeFault) : Type 0 where
  pub skipped : list_all is_skipped lines ≡ true
  pub end : fault ≡ BadLine (length lines + 1)

-- no line is at fault, and the shape has the names and the arrivals that stand there
pub record IsDeclared (lines : List (List ℕ)) (shape : DeclaredShape) : Type 0 where
  pub faultless : AreFaultless lines
  pub opened : list_all is_skipped lines ≡ false
  pub names : names_of shape.streams ≡ names_on lines
  pub arrivals : map (λ (f : ShapeFrame). f.at.0) shape.frames ≡ arrivals_on lines

-- a text gives a fault exactly where this is its first one
abbrev pub EachFaultIsTheFirst : Type 0
EachFaultIsTheFirst = (text : List ℕ) (fault : ShapeFault)
    → shape_of text ≡ Err fault ↔ (IsFirstFault (lines_of text) fault ⊎ IsWithoutResidence (lines_of text) fault)

-- a text that gives a shape has no fault
abbrev pub EachShapeIsFaultless : Type 0
EachShapeIsFaultless = (text : List ℕ) (shape : DeclaredShape) → shape_of text ≡ Ok shape
    → IsDeclared (lines_of text) shape
