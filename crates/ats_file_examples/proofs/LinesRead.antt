use Rattle.std.proofs.Common.{refl}
use Rattle.std.specs.Fmt.{digits}
use Rattle.ats_shape.specs.Text.{frame_text, totals_text}
use Rattle.ats_file_examples.specs.Lines.{RequestsAreCounted, ShapeIsCounted}

-- A request file and a shape file by computation.

pub requests_are_counted : RequestsAreCounted
requests_are_counted = record { read = refl; no_name = refl; no_node = refl }

pub shape_is_counted : ShapeIsCounted
unfolding digits frame_text totals_text
shape_is_counted = record { read = refl; written = refl; no_stream = refl; back = refl }
