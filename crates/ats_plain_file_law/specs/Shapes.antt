use Rattle.std.specs.Prelude.{◌≡◌, ℕ, ◌+◌, ◌-◌, ◌==◌, nat_le, nat_lt, List, [], ◌∷◌, ◌++◌, length, map, slice_index_or}
use Rattle.std.specs.Prelude.{codes, Some, is_none, Result, Err, if◌then◌else◌}
use Rattle.std.specs.Str.{bytes_eq}
use Rattle.ats_num.specs.Failure.{◌>>=◌, ok_where, or_fault}
use Rattle.ats_num.specs.Places.{place_of}
use Rattle.ats_io.specs.Text.{words_of}
use Rattle.ats_words.specs.Words.{is_skipped, word}
use Rattle.ats_shape.specs.Reading.{DraftShape, frame_in, frame_of, residence_in, ruled, shape_from, stream_in}
use Rattle.ats_shape.specs.declared.fault.ShapeFault.{ShapeFault}
use Rattle.ats_shape.specs.declared.fault.ShapeFault.TheVariants.{BadLine, Limit, NameTwice, TimeBack, UnknownName}
use Rattle.ats_shape.specs.declared.shape.ShapeFrame.{ShapeFrame}
use Rattle.ats_shape.specs.declared.shape.ShapeStream.{ShapeStream}

-- the names of what the lines so far declare, and the time of the last frame, 0 before the first
abbrev pub names_so_far : DraftShape → List (List ℕ)
names_so_far draft = map (λ (s : ShapeStream). s.name) draft.streams

abbrev pub time_so_far : DraftShape → ℕ
time_so_far draft = slice_index_or (map (λ (f : ShapeFrame). f.at.0) draft.frames) (length draft.frames - 1) 0

-- the stream of a line: no frame stands before it, no stream has its name, it keeps the rules of a stream, and it is
-- at most the 4096th
abbrev pub stream_due : DraftShape → ℕ → List (List ℕ) → Result ShapeStream ShapeFault
stream_due draft n words = do
  in_place ← ok_where (length draft.frames == 0) (BadLine n) words
  said ← stream_in n in_place
  named ← ok_where (is_none (place_of said.name (names_so_far draft))) (NameTwice n) said
  stream ← ruled n named
  ok_where (nat_lt (length draft.streams) 4096) (Limit n) stream

-- the frame of a line: a stream has its name, it does not arrive before the last frame, and it is at most the 200,000th
abbrev pub frame_due : DraftShape → ℕ → List (List ℕ) → Result ShapeFrame ShapeFault
frame_due draft n words = do
  said ← frame_in n words
  stream ← or_fault (UnknownName n) (place_of said.name (names_so_far draft))
  frame ← ok_where (nat_le (time_so_far draft) said.at) (TimeBack n) (frame_of said stream)
  ok_where (nat_lt (length draft.frames) 200000) (Limit n) frame

-- what further lines declare behind those before them, by the first of them, up to the first fault: a line that is
-- passed over declares nothing, the first that counts is the residence, and each further one by its first word a stream
-- or a frame, or else at fault
pub record ShapeLinesAreRead : Type 0 where
  pub next : (draft : DraftShape) (n : ℕ) (line : List ℕ) (lines : List (List ℕ)) → shape_from draft n (line ∷ lines)
      ≡ (if is_skipped line then shape_from draft (n + 1) lines
      else if is_none draft.residence
      then (residence_in n (words_of line)
      >>= λ ns. shape_from (record draft { residence = Some ns }) (n + 1) lines)
      else if bytes_eq (word (words_of line) 0) (codes "stream")
      then (stream_due draft n (words_of line)
      >>= λ stream. shape_from (record draft { streams = draft.streams ++ stream ∷ [] }) (n + 1) lines)
      else if bytes_eq (word (words_of line) 0) (codes "frame")
      then (frame_due draft n (words_of line)
      >>= λ frame. shape_from (record draft { frames = draft.frames ++ frame ∷ [] }) (n + 1) lines)
      else Err (BadLine n))
