use Rattle.std.proofs.Common.{◌≡◌, refl}
use Rattle.std.specs.Fmt.{digits}
use Rattle.ats_explain_text.specs.Text as explain
use Rattle.ats_explain_text.specs.Text.{explain_text}
use Rattle.ats_network_text.specs.Text as show
use Rattle.ats_network_text.specs.Text.{show_text}
use Rattle.ats_verdict_text.specs.Text.{accepted_text, hop_line, listener_lines}
use Rattle.ats_file_examples.specs.Network.{crowd}
use Rattle.ats_file_examples.specs.Records.{crowd_rows}
use Rattle.ats_file_examples.specs.Shown.{CrowdIsWritten, accepted, explained, shown}

-- What is printed of the network, by computation.

show_is : show_text crowd ≡ shown
unfolding digits show.show_text show.port_line show.classes_text show.rates_line show.sender_line show.totals_line
show_is = refl

check_is : accepted_text crowd crowd_rows ≡ accepted
unfolding digits hop_line listener_lines
check_is = refl

explain_is : explain_text crowd ≡ explained
unfolding
    digits explain.explain_text explain.stream_line explain.wait_text explain.bound_text explain.hop_line
    explain.port_line explain.counts_text
explain_is = refl

pub crowd_is_written : CrowdIsWritten
crowd_is_written = record { show = show_is; check = check_is; explain = explain_is }
