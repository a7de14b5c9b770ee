use Rattle.std.specs.Prelude.{◌≡◌, ℕ, ◌≤◌, ◌<◌, List, length, All, None}
use Rattle.std.specs.Option.{ForSome}
use Rattle.ats_num.specs.Places.{place_of}
use Rattle.ats_shape.specs.Shape.{IsRuled, IsFrameOf}
use Rattle.ats_shape.specs.Reading.{DraftShape, names_of}
use Rattle.ats_shape.specs.declared.shape.ShapeStream.{ShapeStream}
use Rattle.ats_shape.specs.declared.shape.ShapeFrame.{ShapeFrame}
use Rattle.ats_shape.specs.declared.line.Line.{Line}
use Rattle.ats_shape.specs.declared.line.Line.TheVariants.{Skipped, Residence, Stream, Frame}

-- a draft within the limits, beside a table of the names of its streams
pub record IsDraft (table : List (List ℕ)) (draft : DraftShape) : Type 0 where
  pub named : table ≡ names_of draft.streams
  pub residence : ForSome draft.residence (λ ns. ns ≤ 1000000000)
  pub ruled : All IsRuled draft.streams
  pub few_streams : length draft.streams ≤ 4096
  pub framed : All (IsFrameOf (length draft.streams)) draft.frames
  pub few_frames : length draft.frames ≤ 200000

-- a stream line comes before all frames, with a new name, within the rules and the limit
pub record FitsStream (draft : DraftShape) (stream : ShapeStream) : Type 0 where
  pub early : length draft.frames ≡ 0
  pub new : place_of stream.name (names_of draft.streams) ≡ None
  pub ruled : IsRuled stream
  pub few : length draft.streams < 4096

-- a frame line names a stream that is there, within the limits
pub record FitsFrame (draft : DraftShape) (frame : ShapeFrame) : Type 0 where
  pub framed : IsFrameOf (length draft.streams) frame
  pub few : length draft.frames < 200000

-- what a line declares keeps the draft within the limits
abbrev pub Fits : DraftShape → Line → Type 0
Fits draft Skipped = Unit {0}
Fits draft (Residence ns) = ns ≤ 1000000000
Fits draft (Stream stream) = FitsStream draft stream
Fits draft (Frame frame) = FitsFrame draft frame
