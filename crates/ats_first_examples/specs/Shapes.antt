use Rattle.std.specs.Prelude.{◌≡◌, ℕ, List, [], ◌∷◌, ◌++◌, codes, Result, Ok, Err}
use Rattle.ats_shape.specs.Reading.{shape_of}
use Rattle.ats_shape.specs.Shape.{DeclaredShape}
use Rattle.ats_shape.specs.declared.fault.ShapeFault.{ShapeFault}
use Rattle.ats_shape.specs.declared.fault.ShapeFault.TheVariants as line
use Rattle.ats_streams.specs.declared.fault.StreamFault.TheVariants as rule
use Rattle.ats_text_examples.specs.Shaped.{frame, stream}

-- Lines of shape files with several faults at once, and which of them is named.

-- a residence, a stream, and a frame of it at 2002 ps
abbrev pub head : List ℕ
head = codes "residence 1000\nstream a 1000 672 64 64\n"

abbrev pub head_and_frame : List ℕ
head_and_frame = head ++ codes "frame 2002 a 64\n"

-- what is read of these lines behind the first two, and behind all three
abbrev pub behind_stream : List ℕ → Result DeclaredShape ShapeFault
behind_stream text = shape_of (head ++ text)

abbrev pub behind_frame : List ℕ → Result DeclaredShape ShapeFault
behind_frame text = shape_of (head_and_frame ++ text)

-- a stream line has all faults, and one less each time: its place behind frames or its form, its name, and the rules on
-- rate, sizes and burst in their order
pub record StreamLinesAreFirst : Type 0 where
  pub place : behind_frame (codes "stream a 0 0 0 0\n") ≡ Err (line.BadLine 4)
  pub form : behind_stream (codes "stream a 0 0 0\n") ≡ Err (line.BadLine 3)
  pub long : behind_stream (codes "stream a 0 0 0 0 0\n") ≡ Err (line.BadLine 3)
  pub no_name : behind_stream (codes "stream a. 0 0 0 0\n") ≡ Err (line.BadLine 3)
  pub no_rate : behind_stream (codes "stream a x 0 0 0\n") ≡ Err (line.BadLine 3)
  pub no_burst : behind_stream (codes "stream a 0 x 0 0\n") ≡ Err (line.BadLine 3)
  pub no_least : behind_stream (codes "stream a 0 0 x 0\n") ≡ Err (line.BadLine 3)
  pub no_greatest : behind_stream (codes "stream a 0 0 0 x\n") ≡ Err (line.BadLine 3)
  pub name : behind_stream (codes "stream a 0 0 0 0\n") ≡ Err (line.NameTwice 3)
  pub rate : behind_stream (codes "stream b 0 0 0 0\n") ≡ Err (line.Stream 3 rule.BadRate)
  pub sizes : behind_stream (codes "stream b 1 0 0 0\n") ≡ Err (line.Stream 3 rule.BadSizes)
  pub burst : behind_stream (codes "stream b 1 0 64 64\n") ≡ Err (line.Stream 3 rule.BurstBelowFrame)
  pub over : behind_stream (codes "stream b 1 1000000001 64 64\n") ≡ Err (line.Stream 3 rule.Limit)

-- a frame line: its form, which has the greatest time and the octets of a frame, its name, and its time against that of
-- the frame before, which it may have
pub record FrameLinesAreFirst : Type 0 where
  pub form : behind_frame (codes "frame 2001 b\n") ≡ Err (line.BadLine 4)
  pub long : behind_frame (codes "frame 2001 b 64 64\n") ≡ Err (line.BadLine 4)
  pub no_time : behind_frame (codes "frame x b 64\n") ≡ Err (line.BadLine 4)
  pub no_name : behind_frame (codes "frame 2001 b. 64\n") ≡ Err (line.BadLine 4)
  pub no_octets : behind_frame (codes "frame 2001 b x\n") ≡ Err (line.BadLine 4)
  pub octets_below : behind_frame (codes "frame 2001 b 63\n") ≡ Err (line.BadLine 4)
  pub octets_over : behind_frame (codes "frame 2001 b 2001\n") ≡ Err (line.BadLine 4)
  pub time_over : behind_frame (codes "frame 100000000000000001 b 64\n") ≡ Err (line.BadLine 4)
  pub name : behind_frame (codes "frame 2001 b 64\n") ≡ Err (line.UnknownName 4)
  pub back : behind_frame (codes "frame 2001 a 64\n") ≡ Err (line.TimeBack 4)
  pub together : behind_frame (codes "frame 2002 a 2000\nframe 100000000000000000 a 64\n") ≡ Ok (record {
    residence_ns = 1000;
    streams = stream (codes "a") 1000 672 64 64 ∷ [];
    frames = frame 2002 0 64 ∷ frame 2002 0 2000 ∷ frame 100000000000000000 0 64 ∷ [];
  })

-- which lines there are: the first that counts is the residence, and there is one; a line begins with `stream` or
-- `frame`, or counts as none; and an earlier line comes before a later one, whichever their faults are
pub record OtherLinesAreFirst : Type 0 where
  pub no_line : shape_of [] ≡ Err (line.BadLine 1)
  pub comments_alone : shape_of (codes "# a\n\n   \n") ≡ Err (line.BadLine 4)
  pub stream_before : shape_of (codes "stream a 1000 672 64 64\n") ≡ Err (line.BadLine 1)
  pub frame_before : shape_of (codes "\nframe 1 a 64\n") ≡ Err (line.BadLine 2)
  pub residence_twice : behind_stream (codes "residence 1000\n") ≡ Err (line.BadLine 3)
  pub residence_long : shape_of (codes "residence 1000 1\n") ≡ Err (line.BadLine 1)
  pub residence_short : shape_of (codes "residence\n") ≡ Err (line.BadLine 1)
  pub capital : behind_stream (codes "Stream b 1000 672 64 64\n") ≡ Err (line.BadLine 3)
  pub other_word : behind_stream (codes "flow b 64\n") ≡ Err (line.BadLine 3)
  pub comment_behind_space : behind_stream (codes " # a\n") ≡ Err (line.BadLine 3)
  pub earlier : behind_stream (codes "frame 1 b 64\nstream a 0 0 0\n") ≡ Err (line.UnknownName 3)
  pub earlier_form : behind_stream (codes "stream b 1\nframe 1 b 64\n") ≡ Err (line.BadLine 3)

-- which lines end where: the last one may be without LF, and keeps its CR then; lines without words and comments count
-- as lines, and not as frames
pub record LinesEnd : Type 0 where
  pub no_feed : shape_of (codes "residence 1000") ≡ Ok (record { residence_ns = 1000; streams = []; frames = [] })
  pub return_alone : shape_of (codes "residence 1000" ++ 13 ∷ []) ≡ Err (line.BadLine 1)
  pub return_inside : shape_of (codes "residence 1000" ++ 13 ∷ codes "x\n") ≡ Err (line.BadLine 1)
  pub counted : behind_stream (codes "\n# a\n \nframe 1 b 64\n") ≡ Err (line.UnknownName 6)
  pub spaced : behind_stream (codes "  frame   1  a  64  \n") ≡ Ok (record {
    residence_ns = 1000;
    streams = stream (codes "a") 1000 672 64 64 ∷ [];
    frames = frame 1 0 64 ∷ [];
  })

pub record ShapesAreFirst : Type 0 where
  pub streams : StreamLinesAreFirst
  pub frames : FrameLinesAreFirst
  pub others : OtherLinesAreFirst
  pub ends : LinesEnd
