use Rattle.std.proofs.Common.{◌≡◌, refl}
use Rattle.std.specs.Fmt.{digits}
use Rattle.ats_explain_text.specs.Text.{explain_text, stream_line, wait_text, bound_text, hop_line, port_line}
use Rattle.ats_explain_text.specs.Text.{counts_text}
use Rattle.ats_text_examples.specs.Worked.{way}
use Rattle.ats_text_examples.specs.Shown.{explained}

-- What `explain` prints, by computation.

pub explain_is : explain_text way ≡ explained
unfolding digits explain_text stream_line wait_text bound_text hop_line port_line counts_text
explain_is = refl
