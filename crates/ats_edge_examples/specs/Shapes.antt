use Rattle.std.specs.Prelude.{◌≡◌, ℕ, ◌+◌, ◌*◌, max, List, [], ◌∷◌, ◌++◌, length, count_by, codes, decimal}
use Rattle.std.specs.Prelude.{unwrap_or, Option, None, Err, if◌then◌else◌}
use Rattle.std.specs.List.{slice_get}
use Rattle.ats_num.specs.Name.{name_of}
use Rattle.ats_num.specs.Number.{number_of}
use Rattle.ats_streams.specs.Traffic.{is_declared_size}
use Rattle.ats_streams.specs.declared.traffic.Declared.{Declared}
use Rattle.ats_group.specs.Group.{verdict_by}
use Rattle.ats_group.specs.declared.verdict.Verdict.{Verdict}
use Rattle.ats_group.specs.declared.verdict.Verdict.TheVariants.{Size}
use Rattle.ats_lrq.specs.Fold.{verdict_on}
use Rattle.ats_lrq.specs.Spacing.{free_from}
use Rattle.ats_lrq.specs.declared.last_frame.LastFrame.{LastFrame}
use Rattle.ats_lrq_shape.specs.Verdicts.{lrq_text_of}
use Rattle.ats_shape.specs.Reading.{shape_of, stream_in}
use Rattle.ats_shape.specs.Shape.{DeclaredShape}
use Rattle.ats_shape.specs.Text.{is_eligible, is_late, is_size, text_of, totals_text}
use Rattle.ats_shape.specs.declared.fault.ShapeFault.TheVariants.{BadLine}
use Rattle.ats_shape.specs.declared.shape.ShapeFrame.{ShapeFrame}

-- Shape files at edges: since when a residence counts, which numbers are read, and which frames count.

-- frames of this time and size, of a stream of 50 Mb/s with 64 to 900 octets, which may stay for 20 µs
abbrev pub frame : ℕ → ℕ → ShapeFrame
frame time octets = record { at = record { 0 = time }; stream = 0; octets = octets }

abbrev pub may_stay : List ShapeFrame → DeclaredShape
may_stay frames = record {
  residence_ns = 20000;
  streams =
      record {
        name = codes "a";
        declared = record { rate = 50000000; burst_bits = 8000; min_octets = 64; max_octets = 900 };
      }
      ∷ [];
  frames = frames;
}

-- the residence of a frame counts from when it came. Of three frames at once the second waits a residence less 6560 ns,
-- and the third may stay as long from when it came, not from when the second goes. So it is for all: the last time is
-- the arrival and the residence, whatever the group eligibility time is and the frame before is
pub record ResidenceIsSinceArrival : Type 0 where
  pub third_is_late : lrq_text_of (may_stay (frame 0 64 ∷ frame 0 64 ∷ frame 0 64 ∷ []))
      ≡ codes "frame 0 a 64 0 eligible 0\n" ++ codes "frame 1 a 64 0 eligible 13440000\n"
      ++ codes "frame 2 a 64 0 late 26880000\n" ++ codes "total frames 3 eligible 2 late 1 size 0\n"
  pub verdict : (declared : Declared) (residence_ns time : ℕ) (last : Option LastFrame) (arrival octets : ℕ)
      → verdict_on declared residence_ns time last arrival octets
      ≡ (if is_declared_size declared octets
      then verdict_by (arrival + 1000 * residence_ns) (max (max arrival time) (free_from declared.rate last)) else Size)

-- each number of a stream line is written as all others are: with no zero in front, and with no other sign
pub record NumbersHaveNoZeros : Type 0 where
  pub rate : shape_of (codes "residence 1\nstream x 01 672 64 64\n") ≡ Err (BadLine 2)
  pub burst : shape_of (codes "residence 1\nstream x 1 0672 64 64\n") ≡ Err (BadLine 2)
  pub least : shape_of (codes "residence 1\nstream x 1 672 064 64\n") ≡ Err (BadLine 2)
  pub greatest : shape_of (codes "residence 1\nstream x 1 672 64 064\n") ≡ Err (BadLine 2)
  pub least_sign : shape_of (codes "residence 1\nstream x 1 672 +64 64\n") ≡ Err (BadLine 2)
  pub greatest_sign : shape_of (codes "residence 1\nstream x 1 672 64 +64\n") ≡ Err (BadLine 2)

-- the word at this place of a line, the first of them at 0
abbrev pub word_at : List (List ℕ) → ℕ → List ℕ
word_at words place = unwrap_or (slice_get words place) []

-- for all lines: a stream line is bad where the word at the place of a number is none, and where that of the name is no
-- name. Refuses one number that is read in a wider way than the others are
pub record EachWordIsRead : Type 0 where
  pub name : (n : ℕ) (words : List (List ℕ)) → name_of (word_at words 1) ≡ None → stream_in n words ≡ Err (BadLine n)
  pub rate : (n : ℕ) (words : List (List ℕ)) → number_of (word_at words 2) ≡ None
      → stream_in n words ≡ Err (BadLine n)
  pub burst : (n : ℕ) (words : List (List ℕ)) → number_of (word_at words 3) ≡ None
      → stream_in n words ≡ Err (BadLine n)
  pub least : (n : ℕ) (words : List (List ℕ)) → number_of (word_at words 4) ≡ None
      → stream_in n words ≡ Err (BadLine n)
  pub greatest : (n : ℕ) (words : List (List ℕ)) → number_of (word_at words 5) ≡ None
      → stream_in n words ≡ Err (BadLine n)

-- all frames count in the totals, the first too
pub record TotalsAreOfAll : Type 0 where
  pub first_is_long : text_of (may_stay (frame 0 901 ∷ frame 0 64 ∷ []))
      ≡ codes "frame 0 a 901 0 size\n" ++ codes "frame 1 a 64 0 eligible 0\n"
      ++ codes "total frames 2 eligible 1 late 0 size 1\n"
  pub totals : (verdicts : List Verdict) → totals_text verdicts
      ≡ codes "total frames " ++ decimal (length verdicts) ++ codes " eligible "
      ++ decimal (count_by is_eligible verdicts) ++ codes " late " ++ decimal (count_by is_late verdicts)
      ++ codes " size " ++ decimal (count_by is_size verdicts) ++ codes "\n"

pub record ShapesAreAtEdges : Type 0 where
  pub residence : ResidenceIsSinceArrival
  pub numbers : NumbersHaveNoZeros
  pub words : EachWordIsRead
  pub totals : TotalsAreOfAll
