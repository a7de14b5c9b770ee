use Rattle.std.specs.Prelude.{ℕ, List, map}
use Rattle.ats_group.specs.declared.verdict.Verdict.{Verdict}
use Rattle.ats_shape.specs.Shape.{DeclaredShape}
use Rattle.ats_shape.specs.Text.{report_on}
use Rattle.ats_shape.specs.Verdicts.{declared_in, offer_of}
use Rattle.ats_lrq.specs.Judge.{lrq_judge}

-- the verdicts on all frames of a shape: those of one length-rate-quotient regulator, whose members are the streams
abbrev pub lrq_verdicts_on : DeclaredShape → List Verdict
lrq_verdicts_on shape = lrq_judge (declared_in shape.streams) shape.residence_ns (map offer_of shape.frames)

-- what is printed for a shape
abbrev pub lrq_text_of : DeclaredShape → List ℕ
lrq_text_of shape = report_on shape (lrq_verdicts_on shape)
