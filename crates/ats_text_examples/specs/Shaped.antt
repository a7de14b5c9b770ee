use Rattle.std.specs.Prelude.{◌≡◌, ℕ, List, [], ◌∷◌, ◌++◌, codes, map, slice_index_or, Ok, Err}
use Rattle.ats_streams.specs.declared.traffic.Declared.{Declared}
use Rattle.ats_group.specs.Group.{Offer}
use Rattle.ats_group.specs.Judge.{ats_judge}
use Rattle.ats_lrq.specs.Judge.{lrq_judge}
use Rattle.ats_shape.specs.Shape.{DeclaredShape}
use Rattle.ats_shape.specs.Reading.{shape_of}
use Rattle.ats_shape.specs.Text.{text_of}
use Rattle.ats_shape.specs.Verdicts.{no_stream, verdicts_on}
use Rattle.ats_lrq_shape.specs.Verdicts.{lrq_text_of, lrq_verdicts_on}
use Rattle.ats_shape.specs.declared.shape.ShapeStream.{ShapeStream}
use Rattle.ats_shape.specs.declared.shape.ShapeFrame.{ShapeFrame}
use Rattle.ats_shape.specs.declared.fault.ShapeFault.TheVariants.{BadLine}

-- The text of a shape file, what it declares, and what is printed of it.

abbrev pub shape_file : List ℕ
shape_file =
    codes "# two streams in one group\n" ++ codes "residence 20000\n" ++ codes "stream a 50000000 8000 64 900\n"
    ++ codes "stream b 80000000 12400 101 1500\n" ++ codes "\n" ++ codes "frame 1001 a 880\n"
    ++ codes "frame 2002 b 1499\n" ++ codes "frame 3003 a 890\n" ++ codes "frame 4004 b 99\n"
    ++ codes "frame 5005 b 64\n" ++ codes "frame 6006 a 100\n"

abbrev pub stream : List ℕ → ℕ → ℕ → ℕ → ℕ → ShapeStream
stream name rate burst least most = record {
  name = name;
  declared = record { rate = rate; burst_bits = burst; min_octets = least; max_octets = most };
}

abbrev pub frame : ℕ → ℕ → ℕ → ShapeFrame
frame time stream octets = record { at = record { 0 = time }; stream = stream; octets = octets }

abbrev pub shape : DeclaredShape
shape = record {
  residence_ns = 20000;
  streams = stream (codes "a") 50000000 8000 64 900 ∷ stream (codes "b") 80000000 12400 101 1500 ∷ [];
  frames = frame 1001 0 880 ∷ frame 2002 1 1499 ∷ frame 3003 0 890 ∷ frame 4004 1 99 ∷ frame 5005 1 64
      ∷ frame 6006 0 100 ∷ [];
}

abbrev pub report : List ℕ
report =
    codes "frame 0 a 880 1001 eligible 1001\n" ++ codes "frame 1 b 1499 2002 eligible 2002\n"
    ++ codes "frame 2 a 890 3003 late 129601001\n" ++ codes "frame 3 b 99 4004 size\n"
    ++ codes "frame 4 b 64 5005 size\n" ++ codes "frame 5 a 100 6006 eligible 3201001\n"
    ++ codes "total frames 6 eligible 3 late 1 size 2\n"

-- by the other regulator; the late third frame of the shape is not the one before the last
abbrev pub lrq_report : List ℕ
lrq_report =
    codes "frame 0 a 880 1001 eligible 1001\n" ++ codes "frame 1 b 1499 2002 eligible 2002\n"
    ++ codes "frame 2 a 890 3003 late 144001001\n" ++ codes "frame 3 b 99 4004 size\n"
    ++ codes "frame 4 b 64 5005 size\n" ++ codes "frame 5 a 100 6006 late 144001001\n"
    ++ codes "total frames 6 eligible 2 late 2 size 2\n"

-- frames of which the third waits for the second, of another stream, whose own distance it keeps
abbrev pub close_frames : DeclaredShape
close_frames = record {
  residence_ns = 1000000;
  streams = stream (codes "a") 50000000 8000 64 900 ∷ stream (codes "b") 80000000 12400 101 1500 ∷ [];
  frames = frame 0 0 880 ∷ frame 0 0 64 ∷ frame 1 1 101 ∷ [];
}

abbrev pub close_report : List ℕ
close_report =
    codes "frame 0 a 880 0 eligible 0\n" ++ codes "frame 1 a 64 0 eligible 144000000\n"
    ++ codes "frame 2 b 101 1 eligible 144000000\n" ++ codes "total frames 3 eligible 3 late 0 size 0\n"

-- two streams that are each held back by their own bucket: the second by its rate and burst, which are not those of the
-- first, and the first by its own, which are not those of the last
abbrev pub own_buckets : DeclaredShape
own_buckets = record {
  residence_ns = 1000000;
  streams = stream (codes "a") 50000000 16000 64 900 ∷ stream (codes "b") 80000000 12400 101 1500 ∷ [];
  frames = frame 0 1 1499 ∷ frame 0 1 101 ∷ frame 9000000 0 880 ∷ frame 9000000 0 880 ∷ frame 9000001 0 64
      ∷ frame 9000002 0 200 ∷ [];
}

-- 12152 and 968 bits of b are 720 more than its burst, which 80 Mb/s give in 9000000 ps; 16832 bits of a are 832 more
-- than its burst, which 50 Mb/s give in 16640000 ps
abbrev pub own_report : List ℕ
own_report =
    codes "frame 0 b 1499 0 eligible 0\n" ++ codes "frame 1 b 101 0 eligible 9000000\n"
    ++ codes "frame 2 a 880 9000000 eligible 9000000\n" ++ codes "frame 3 a 880 9000000 eligible 9000000\n"
    ++ codes "frame 4 a 64 9000001 eligible 9000001\n" ++ codes "frame 5 a 200 9000002 eligible 25640000\n"
    ++ codes "total frames 6 eligible 6 late 0 size 0\n"

-- by the other regulator each frame waits until the rate of its own stream has given the one before: 12152 bits of b in
-- 151900000 ps, 7200 of a in 144000000 ps and 672 in 13440000 ps
abbrev pub own_lrq_report : List ℕ
own_lrq_report =
    codes "frame 0 b 1499 0 eligible 0\n" ++ codes "frame 1 b 101 0 eligible 151900000\n"
    ++ codes "frame 2 a 880 9000000 eligible 151900000\n" ++ codes "frame 3 a 880 9000000 eligible 295900000\n"
    ++ codes "frame 4 a 64 9000001 eligible 439900000\n" ++ codes "frame 5 a 200 9000002 eligible 453340000\n"
    ++ codes "total frames 6 eligible 6 late 0 size 0\n"

-- what each stream of a shape declares, by its number, and the frames as they come to the group
abbrev pub each_declared : DeclaredShape → ℕ → Declared
each_declared shape n = (slice_index_or shape.streams n no_stream).declared

abbrev pub each_offered : DeclaredShape → List Offer
each_offered shape =
    map (λ (f : ShapeFrame). record { member = f.stream; arrival = f.at.0; octets = f.octets }) shape.frames

-- lines that end in CR LF, and a word behind two spaces
abbrev pub returned_file : List ℕ
returned_file =
    codes "residence 20000" ++ 13 ∷ 10 ∷ [] ++ codes "stream  a 50000000 8000 64 900" ++ 13 ∷ 10 ∷ []

-- a tab between two words
abbrev pub tabbed_file : List ℕ
tabbed_file = codes "residence 20000\n" ++ codes "stream" ++ 9 ∷ codes "a 50000000 8000 64 900\n"

-- each frame is judged by what its own stream declares, in any shape and by either regulator. Refuses the rate or the
-- burst of the first stream, or of the last, for each
pub record BucketsAreOwn : Type 0 where
  pub by_bucket : text_of own_buckets ≡ own_report
  pub by_quotient : lrq_text_of own_buckets ≡ own_lrq_report
  pub verdicts : (shape : DeclaredShape)
      → verdicts_on shape ≡ ats_judge (each_declared shape) shape.residence_ns (each_offered shape)
  pub lrq_verdicts : (shape : DeclaredShape)
      → lrq_verdicts_on shape ≡ lrq_judge (each_declared shape) shape.residence_ns (each_offered shape)

-- the file is read so, and printed so; a CR that ends a line is not of it, nor do spaces more make a word, while a tab
-- parts none
pub record ShapesAreTold : Type 0 where
  pub read : shape_of shape_file ≡ Ok shape
  pub written : text_of shape ≡ report
  pub by_quotient : lrq_text_of shape ≡ lrq_report
  pub in_turn : lrq_text_of close_frames ≡ close_report
  pub returned : shape_of returned_file
      ≡ Ok (record { residence_ns = 20000; streams = stream (codes "a") 50000000 8000 64 900 ∷ []; frames = [] })
  pub tabbed : shape_of tabbed_file ≡ Err (BadLine 2)
  pub own : BucketsAreOwn
