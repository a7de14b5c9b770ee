use Rattle.std.specs.Prelude.{ℕ, ◌+◌, ◌-◌, ◌&&◌, ◌==◌, nat_le, nat_lt, List, [], ◌∷◌, ◌++◌, length, map}
use Rattle.std.specs.Prelude.{slice_index_or, codes, Option, Some, None, Result, Ok, Err, if◌then◌else◌}
use Rattle.std.specs.Prelude.{is_none}
use Rattle.std.specs.Str.{bytes_eq}
use Rattle.ats_num.specs.Name.{name_of}
use Rattle.ats_num.specs.Number.{number_of}
use Rattle.ats_num.specs.Places.{place_of}
use Rattle.ats_io.specs.Text.{lines_of, words_of}
use Rattle.ats_words.specs.Words.{word, is_skipped}
use Rattle.ats_streams.specs.Fault.{rules_fault}
use Rattle.ats_streams.specs.declared.fault.StreamFault.{StreamFault}
use Rattle.ats_num.specs.Failure.{◌>>=◌, or_fault, ok_where}
use Rattle.ats_shape.specs.Shape.{DeclaredShape}
use Rattle.ats_shape.specs.declared.shape.ShapeStream.{ShapeStream}
use Rattle.ats_shape.specs.declared.shape.ShapeFrame.{ShapeFrame}
use Rattle.ats_shape.specs.declared.fault.ShapeFault.{ShapeFault}
use Rattle.ats_shape.specs.declared.fault.ShapeFault.TheVariants.{BadLine, NameTwice, UnknownName, TimeBack, Limit}
use Rattle.ats_shape.specs.declared.fault.ShapeFault.TheVariants as faults
use Rattle.ats_shape.specs.declared.line.StreamWords.{StreamWords}
use Rattle.ats_shape.specs.declared.line.FrameWords.{FrameWords}
use Rattle.ats_shape.specs.declared.line.Line.{Line}
use Rattle.ats_shape.specs.declared.line.Line.TheVariants.{Skipped, Residence, Stream, Frame}

-- what the lines so far declare
pub record DraftShape : Type 0 where
  pub residence : Option ℕ
  pub streams : List ShapeStream
  pub frames : List ShapeFrame

-- before the first line
abbrev pub blank : DraftShape
blank = record { residence = None; streams = []; frames = [] }

-- the words of a line `residence NS`, NS at most 1,000,000,000, give NS
abbrev pub residence_in : ℕ → List (List ℕ) → Result ℕ ShapeFault
residence_in n words = do
  ns ← or_fault (BadLine n) (number_of (word words 1))
  ok_where (length words == 2 && bytes_eq (word words 0) (codes "residence") && nat_le ns 1000000000) (BadLine n) ns

-- the words of a line `stream NAME RATE BURST MIN MAX` give these, whatever the numbers are
abbrev pub stream_in : ℕ → List (List ℕ) → Result StreamWords ShapeFault
stream_in n words = do
  name ← or_fault (BadLine n) (name_of (word words 1))
  rate ← or_fault (BadLine n) (number_of (word words 2))
  burst ← or_fault (BadLine n) (number_of (word words 3))
  least ← or_fault (BadLine n) (number_of (word words 4))
  most ← or_fault (BadLine n) (number_of (word words 5))
  ok_where (length words == 6) (BadLine n)
      (record { name = name; rate_bps = rate; burst_bits = burst; min_octets = least; max_octets = most })

-- the words of a line `frame AT NAME OCTETS`, AT at most 10^17 and OCTETS 64 to 2000, give these
abbrev pub frame_in : ℕ → List (List ℕ) → Result FrameWords ShapeFault
frame_in n words = do
  at ← or_fault (BadLine n) (number_of (word words 1))
  name ← or_fault (BadLine n) (name_of (word words 2))
  octets ← or_fault (BadLine n) (number_of (word words 3))
  ok_where (length words == 4 && nat_le at 100000000000000000 && nat_le 64 octets && nat_le octets 2000) (BadLine n)
      (record { at = at; name = name; octets = octets })

-- the names of streams
abbrev pub names_of : List ShapeStream → List (List ℕ)
names_of streams = map (λ (s : ShapeStream). s.name) streams

-- the stream that these words declare
abbrev pub stream_of : StreamWords → ShapeStream
stream_of w = record {
  name = w.name;
  declared =
      record { rate = w.rate_bps; burst_bits = w.burst_bits; min_octets = w.min_octets; max_octets = w.max_octets };
}

-- that stream, where no fault is found
abbrev pub stream_or_fault : ℕ → ShapeStream → Option StreamFault → Result ShapeStream ShapeFault
stream_or_fault n stream None = Ok stream
stream_or_fault n stream (Some fault) = Err (faults.Stream n fault)

-- that stream, or the first rule on rate, sizes and burst that it breaks
abbrev pub ruled : ℕ → StreamWords → Result ShapeStream ShapeFault
ruled n w = stream_or_fault n (stream_of w) (rules_fault w.rate_bps w.burst_bits w.min_octets w.max_octets)

-- the frame that these words declare, of the stream at this place
abbrev pub frame_of : FrameWords → ℕ → ShapeFrame
frame_of w stream = record { at = record { 0 = w.at }; stream = stream; octets = w.octets }

-- the time of the last frame, 0 before the first
abbrev pub last_time : List ShapeFrame → ℕ
last_time frames =
    (slice_index_or frames (length frames - 1) (record { at = record { 0 = 0 }; stream = 0; octets = 0 })).at.0

-- a stream line stands before all frame lines; it has a new name, keeps the rules of a stream, and is at most the
-- 4096th
abbrev pub stream_line : DraftShape → ℕ → List (List ℕ) → Result Line ShapeFault
stream_line draft n words = do
  in_place ← ok_where (length draft.frames == 0) (BadLine n) words
  said ← stream_in n in_place
  named ← ok_where (is_none (place_of said.name (names_of draft.streams))) (NameTwice n) said
  stream ← ruled n named
  ok_where (nat_lt (length draft.streams) 4096) (Limit n) (Stream stream)

-- a frame line names a stream, arrives at the time of the frame before or later, and is at most the 200,000th
abbrev pub frame_line : DraftShape → ℕ → List (List ℕ) → Result Line ShapeFault
frame_line draft n words = do
  said ← frame_in n words
  stream ← or_fault (UnknownName n) (place_of said.name (names_of draft.streams))
  frame ← ok_where (nat_le (last_time draft.frames) said.at) (TimeBack n) (frame_of said stream)
  ok_where (nat_lt (length draft.frames) 200000) (Limit n) (Frame frame)

-- the first line that counts is the residence
abbrev pub residence_line : ℕ → List (List ℕ) → Result Line ShapeFault
residence_line n words = do
  ns ← residence_in n words
  Ok (Residence ns)

-- a line after the residence is a stream line or a frame line
abbrev pub declared_line : DraftShape → ℕ → List (List ℕ) → Result Line ShapeFault
declared_line draft n words =
    if bytes_eq (word words 0) (codes "stream") then stream_line draft n words
    else if bytes_eq (word words 0) (codes "frame") then frame_line draft n words
    else Err (BadLine n)

-- what the line with number n declares, after the lines of the draft; or its fault
abbrev pub line_in : DraftShape → ℕ → List ℕ → Result Line ShapeFault
line_in draft n line =
    if is_skipped line then Ok Skipped
    else if is_none draft.residence then residence_line n (words_of line)
    else declared_line draft n (words_of line)

-- what is declared with one line more
abbrev pub with_line : DraftShape → Line → DraftShape
with_line draft Skipped = draft
with_line draft (Residence ns) = record draft { residence = Some ns }
with_line draft (Stream stream) = record draft { streams = draft.streams ++ stream ∷ [] }
with_line draft (Frame frame) = record draft { frames = draft.frames ++ frame ∷ [] }

-- the shape that all lines declare; where there is no residence, the line after the last, with number n, is missed
abbrev pub finished : DraftShape → ℕ → Result DeclaredShape ShapeFault
finished draft n = do
  ns ← or_fault (BadLine n) draft.residence
  Ok (record { residence_ns = ns; streams = draft.streams; frames = draft.frames })

-- what these lines, the first of them with number n, declare after the lines of the draft; or the first fault
abbrev pub shape_from : DraftShape → ℕ → List (List ℕ) → Result DeclaredShape ShapeFault
shape_from draft n [] = finished draft n
shape_from draft n (line ∷ lines) = line_in draft n line >>= λ said. shape_from (with_line draft said) (n + 1) lines

-- the shape that a text declares, or its first fault
abbrev pub shape_of : List ℕ → Result DeclaredShape ShapeFault
shape_of text = shape_from blank 1 (lines_of text)
