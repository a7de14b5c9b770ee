use Rattle.std.proofs.Common.{[], refl}
use Rattle.std.specs.Fmt.{digits}
use Rattle.ats_network_text.specs.Text.{classes_text, rates_line, sender_line}
use Rattle.ats_examples.proofs.NetworkTest.{long_network_by}
use Rattle.ats_tree_examples.specs.Networks.{tree_links}
use Rattle.ats_clock_examples.specs.RateTexts.{BurstsAreEnough, ChangedRatesAreShown, EndsChangeNothing}
use Rattle.ats_clock_examples.specs.RateTexts.{OnePortIsEnough, TalkersHaveAWord, shown, shown_nodes}

-- Lines of rates by computation.

ends : EndsChangeNothing
unfolding digits classes_text rates_line sender_line
ends = record { none = refl; behind = refl }

ports : OnePortIsEnough
unfolding digits classes_text rates_line sender_line
ports = record { not_last = refl; not_first = refl }

bursts : BurstsAreEnough
unfolding digits classes_text rates_line sender_line
bursts = record { passing = refl; talking = refl }

talkers : TalkersHaveAWord
unfolding digits classes_text rates_line sender_line
talkers = record { alone = refl }

pub changed_rates_are_shown : ChangedRatesAreShown
changed_rates_are_shown = record {
  network = long_network_by shown_nodes tree_links shown.streams [] refl refl;
  ends = ends;
  ports = ports;
  bursts = bursts;
  talkers = talkers;
}
