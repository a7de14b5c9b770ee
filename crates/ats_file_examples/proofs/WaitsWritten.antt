use Rattle.std.proofs.Common.{refl}
use Rattle.std.specs.Fmt.{digits}
use Rattle.ats_shape.specs.Text.{frame_text, totals_text}
use Rattle.ats_file_examples.specs.Waiting.{WaitsAreWritten}

-- What is printed of frames that wait, by computation.

pub waits_are_written : WaitsAreWritten
unfolding digits frame_text totals_text
waits_are_written = record { in_time = refl; late = refl; by_quotient = refl; late_by_quotient = refl }
