use Rattle.std.proofs.Common.{refl}
use Rattle.std.specs.Fmt.{digits}
use Rattle.ats_explain_text.specs.Text as explain
use Rattle.ats_network_text.specs.Text as show
use Rattle.ats_file_examples.specs.Alone.{FlowsAreWritten}

-- What is printed of networks with flows alone at a port, by computation.

pub flows_are_written : FlowsAreWritten
unfolding
    digits show.show_text show.port_line show.classes_text show.rates_line show.sender_line show.totals_line
    explain.explain_text explain.stream_line explain.wait_text explain.bound_text explain.hop_line explain.port_line
    explain.counts_text
flows_are_written = record {
  show = refl;
  explain = refl;
  second = refl;
  lower = refl;
  both = refl;
  show_without = refl;
  explain_without = refl;
}
