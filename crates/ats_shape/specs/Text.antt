use Rattle.std.specs.Prelude.{ℕ, ◌+◌, Bool, true, false, List, [], ◌∷◌, ◌++◌, length, count_by, codes, decimal}
use Rattle.std.specs.Prelude.{slice_index_or}
use Rattle.ats_group.specs.declared.verdict.Verdict.{Verdict}
use Rattle.ats_group.specs.declared.verdict.Verdict.TheVariants.{Eligible, Late, Size}
use Rattle.ats_shape.specs.Shape.{DeclaredShape}
use Rattle.ats_shape.specs.Verdicts.{no_stream, verdicts_on}
use Rattle.ats_shape.specs.declared.shape.ShapeStream.{ShapeStream}
use Rattle.ats_shape.specs.declared.shape.ShapeFrame.{ShapeFrame}

-- `eligible E`, `late E` or `size`
abbrev pub verdict_text : Verdict → List ℕ
verdict_text (Eligible e) = codes "eligible " ++ decimal e.0
verdict_text (Late e) = codes "late " ++ decimal e.0
verdict_text Size = codes "size"

-- `frame N NAME OCTETS AT ` and the verdict
unfoldable pub frame_text : ℕ → List ℕ → ShapeFrame → Verdict → List ℕ
frame_text n name frame verdict =
    codes "frame " ++ decimal n ++ codes " " ++ name ++ codes " " ++ decimal frame.octets ++ codes " "
    ++ decimal frame.at.0 ++ codes " " ++ verdict_text verdict ++ codes "\n"

-- the name of the stream with this number
abbrev pub name_in : List ShapeStream → ℕ → List ℕ
name_in streams stream = (slice_index_or streams stream no_stream).name

-- a line for each frame, the first of them with number n
abbrev pub frames_text : List ShapeStream → ℕ → List ShapeFrame → List Verdict → List ℕ
frames_text streams n (frame ∷ frames) (verdict ∷ verdicts) =
    frame_text n (name_in streams frame.stream) frame verdict ++ frames_text streams (n + 1) frames verdicts
frames_text streams n [] verdicts = []
frames_text streams n (frame ∷ frames) [] = []

abbrev pub is_eligible : Verdict → Bool
is_eligible (Eligible e) = true
is_eligible (Late e) = false
is_eligible Size = false

abbrev pub is_late : Verdict → Bool
is_late (Eligible e) = false
is_late (Late e) = true
is_late Size = false

abbrev pub is_size : Verdict → Bool
is_size (Eligible e) = false
is_size (Late e) = false
is_size Size = true

-- `total frames F eligible E late L size S`
unfoldable pub totals_text : List Verdict → List ℕ
totals_text verdicts =
    codes "total frames " ++ decimal (length verdicts) ++ codes " eligible " ++ decimal (count_by is_eligible verdicts)
    ++ codes " late " ++ decimal (count_by is_late verdicts) ++ codes " size "
    ++ decimal (count_by is_size verdicts) ++ codes "\n"

-- a line for each frame, then the totals
abbrev pub report_on : DeclaredShape → List Verdict → List ℕ
report_on shape verdicts = frames_text shape.streams 0 shape.frames verdicts ++ totals_text verdicts

-- what is printed for a shape
abbrev pub text_of : DeclaredShape → List ℕ
text_of shape = report_on shape (verdicts_on shape)
