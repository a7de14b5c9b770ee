use Rattle.std.proofs.Common.{[], refl}
use Rattle.std.specs.Fmt.{digits}
use Rattle.ats_network.specs.Network.{IsNetwork}
use Rattle.ats_replay.specs.Departures.{departures_text, frame_line, hop_line, journey_text, station_line}
use Rattle.ats_replay.specs.Report.{report_text, summary_text}
use Rattle.ats_replay.specs.Totals.{counts_text, totals_line}
use Rattle.ats_examples.proofs.NetworkTest.{long_network_by}
use Rattle.ats_tree_examples.specs.Networks.{tree_links, tree_nodes}
use Rattle.ats_tree_bound_examples.specs.OrderTexts.{backward, turned_and_stream}
use Rattle.ats_tree_bound_examples.specs.RunTexts.{RunsAreWritten}

-- Texts of runs by computation.

rules_turned : IsNetwork turned_and_stream
rules_turned = long_network_by (tree_nodes 1000000) tree_links turned_and_stream.streams [] refl refl

rules_backward : IsNetwork backward
rules_backward = long_network_by (tree_nodes 1000000) tree_links backward.streams [] refl refl

pub runs_are_written : RunsAreWritten
unfolding digits departures_text frame_line hop_line journey_text station_line report_text summary_text counts_text
    totals_line
runs_are_written = record {
  sent = refl;
  too_long = refl;
  too_long_early = refl;
  reported_too_long = refl;
  at_once = refl;
  late = refl;
  babbled = refl;
  between = refl;
  reported = refl;
  rules_turned = rules_turned;
  turned_sent = refl;
  turned_reported = refl;
  rules_backward = rules_backward;
  backward_sent = refl;
  backward_reported = refl;
}
