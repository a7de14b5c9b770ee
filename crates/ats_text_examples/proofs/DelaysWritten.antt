use Rattle.std.proofs.Common.{refl}
use Rattle.std.specs.Fmt.{digits}
use Rattle.ats_witness_text.specs.Text.{found_text, hop_line, release_line, title_line, witness_line}
use Rattle.ats_witness_text.specs.Text.{witness_text}
use Rattle.ats_text_examples.specs.Found.{DelaysAreWritten}

-- What `witness` prints, by computation.

pub delays_are_written : DelaysAreWritten
unfolding digits witness_text found_text title_line hop_line release_line witness_line
delays_are_written = record { witness = refl; text = λ network stream text f is. is.written }
