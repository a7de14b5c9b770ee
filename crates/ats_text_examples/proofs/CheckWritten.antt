use Rattle.std.proofs.Common.{◌≡◌, refl}
use Rattle.std.specs.Fmt.{digits}
use Rattle.ats_verdict_text.specs.Text.{accepted_text, hop_line, listener_lines}
use Rattle.ats_text_examples.specs.Worked.{wide}
use Rattle.ats_text_examples.specs.Ports.{wide_rows}
use Rattle.ats_text_examples.specs.Shown.{accepted, NetworksAreWritten}
use Rattle.ats_text_examples.proofs.ExplainWritten.{explain_is}
use Rattle.ats_text_examples.proofs.ShowWritten.{show_is}

-- What `check` prints, by computation.

check_is : accepted_text wide wide_rows ≡ accepted
unfolding digits hop_line listener_lines
check_is = refl

pub networks_are_written : NetworksAreWritten
networks_are_written = record { show = show_is; explain = explain_is; check = check_is }
