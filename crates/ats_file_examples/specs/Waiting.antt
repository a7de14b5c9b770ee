use Rattle.std.specs.Prelude.{◌≡◌, ℕ, List, [], ◌∷◌, ◌++◌, codes}
use Rattle.ats_shape.specs.Shape.{DeclaredShape}
use Rattle.ats_shape.specs.Text.{text_of}
use Rattle.ats_lrq_shape.specs.Verdicts.{lrq_text_of}
use Rattle.ats_text_examples.specs.Shaped.{frame, stream}

-- Frames that wait in a group just as long as they may, and 1 ps longer.

-- two frames of a stream with this rate at once, and 1 ps later one of another stream; with this maximum residence
abbrev pub waiting : ℕ → ℕ → DeclaredShape
waiting rate residence = record {
  residence_ns = residence;
  streams = stream (codes "a") rate 8000 64 900 ∷ stream (codes "b") 80000000 12400 64 1500 ∷ [];
  frames = frame 0 0 880 ∷ frame 0 0 200 ∷ frame 1 1 101 ∷ [];
}

-- the second frame waits as long as it may, and the third, which its bucket lets through, waits for the second
abbrev pub just_in_time : List ℕ
just_in_time =
    codes "frame 0 a 880 0 eligible 0\n" ++ codes "frame 1 a 200 0 eligible 19200000\n"
    ++ codes "frame 2 b 101 1 eligible 19200000\n" ++ codes "total frames 3 eligible 3 late 0 size 0\n"

-- with 1 bit/s less the second is 1 ps late, and the third waits for none
abbrev pub just_late : List ℕ
just_late =
    codes "frame 0 a 880 0 eligible 0\n" ++ codes "frame 1 a 200 0 late 19200001\n"
    ++ codes "frame 2 b 101 1 eligible 1\n" ++ codes "total frames 3 eligible 2 late 1 size 0\n"

-- the same with the other regulator, where the second waits for all bits of the first; there 1 bit/s is 3 ps
abbrev pub quotient_in_time : List ℕ
quotient_in_time =
    codes "frame 0 a 880 0 eligible 0\n" ++ codes "frame 1 a 200 0 eligible 144000000\n"
    ++ codes "frame 2 b 101 1 eligible 144000000\n" ++ codes "total frames 3 eligible 3 late 0 size 0\n"

abbrev pub quotient_late : List ℕ
quotient_late =
    codes "frame 0 a 880 0 eligible 0\n" ++ codes "frame 1 a 200 0 late 144000003\n"
    ++ codes "frame 2 b 101 1 eligible 1\n" ++ codes "total frames 3 eligible 2 late 1 size 0\n"

pub record WaitsAreWritten : Type 0 where
  pub in_time : text_of (waiting 50000000 19200) ≡ just_in_time
  pub late : text_of (waiting 49999999 19200) ≡ just_late
  pub by_quotient : lrq_text_of (waiting 50000000 144000) ≡ quotient_in_time
  pub late_by_quotient : lrq_text_of (waiting 49999999 144000) ≡ quotient_late
