use Rattle.std.specs.Prelude.{ℕ, ◌≤◌, ◌<◌, List, length, All}
use Rattle.ats_num.specs.Wire.{IsFrameSize}
use Rattle.ats_streams.specs.Rules.{KeepsRules}
use Rattle.ats_shape.specs.declared.shape.ShapeStream.{ShapeStream}
use Rattle.ats_shape.specs.declared.shape.ShapeFrame.{ShapeFrame}

-- what a shape file declares: the maximum residence time of one group in nanoseconds, its streams, and the frames that
-- arrive there
pub record DeclaredShape : Type 0 where
  pub residence_ns : ℕ
  pub streams : List ShapeStream
  pub frames : List ShapeFrame

-- what is declared of a stream keeps the rules of a stream
abbrev pub IsRuled : ShapeStream → Type 0
IsRuled s = KeepsRules s.declared.rate s.declared.burst_bits s.declared.min_octets s.declared.max_octets

-- a frame of so many streams: its stream is one of them, its size is a frame's, and it arrives at most at 10^17 ps
pub record IsFrameOf (streams : ℕ) (f : ShapeFrame) : Type 0 where
  pub stream : f.stream < streams
  pub size : IsFrameSize f.octets
  pub time : f.at.0 ≤ 100000000000000000

-- the bounds that each shape keeps
pub record IsShape (shape : DeclaredShape) : Type 0 where
  pub residence : shape.residence_ns ≤ 1000000000
  pub ruled : All IsRuled shape.streams
  pub few_streams : length shape.streams ≤ 4096
  pub framed : All (IsFrameOf (length shape.streams)) shape.frames
  pub few_frames : length shape.frames ≤ 200000
