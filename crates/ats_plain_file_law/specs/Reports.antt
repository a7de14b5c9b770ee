use Rattle.std.specs.Prelude.{◌≡◌, ℕ, List, [], ◌∷◌}
use Rattle.ats_shape.specs.Shape.{DeclaredShape}
use Rattle.ats_shape.specs.Text.{frames_text, report_on}
use Rattle.ats_shape.specs.Verdicts.{no_stream}
use Rattle.ats_shape.specs.declared.shape.ShapeFrame.{ShapeFrame}
use Rattle.ats_shape.specs.declared.shape.ShapeStream.{ShapeStream}
use Rattle.ats_lrq_shape.specs.Verdicts.{lrq_text_of, lrq_verdicts_on}

-- a frame that no verdict is for has no line, and the stream of a number that no stream has is without a name, its
-- numbers 0. By the other regulator the report is that on its verdicts
pub record ReportsAreTold : Type 0 where
  pub none : no_stream
      ≡ record { name = []; declared = record { rate = 0; burst_bits = 0; min_octets = 0; max_octets = 0 } }
  pub no_verdict : (streams : List ShapeStream) (n : ℕ) (frame : ShapeFrame) (frames : List ShapeFrame)
      → frames_text streams n (frame ∷ frames) [] ≡ []
  pub by_quotients : (shape : DeclaredShape) → lrq_text_of shape ≡ report_on shape (lrq_verdicts_on shape)
