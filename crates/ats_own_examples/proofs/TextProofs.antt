use Rattle.std.proofs.Common.{refl}
use Rattle.std.specs.Fmt.{digits}
use Rattle.ats_settings_text.specs.Text as settings
use Rattle.ats_network_text.specs.Text.{show_text, port_line, classes_text, rates_line, sender_line, totals_line}
use Rattle.ats_verdict_text.specs.Text.{listener_lines}
use Rattle.ats_verdict_text.specs.Text as verdict
use Rattle.ats_explain_text.specs.Text.{explain_text, stream_line, wait_text, bound_text, hop_line, counts_text}
use Rattle.ats_explain_text.specs.Text as explain
use Rattle.ats_witness_text.specs.Text.{found_text, release_line, title_line, witness_line, witness_text}
use Rattle.ats_witness_text.specs.Text as witness
use Rattle.ats_examples.specs.OwnFrames.{own}
use Rattle.ats_tree_examples.specs.Networks.{behind_bridge, from_bridge}
use Rattle.ats_tree_bound_examples.proofs.SettingsProofs.{only}
use Rattle.ats_own_examples.specs.Networks.{local}
use Rattle.ats_own_examples.specs.Texts.{DelaysAreTold, OthersAreTold, PathsAreShown, StaysAreExplained}
use Rattle.ats_own_examples.specs.Texts.{TextsAreWritten}
use Rattle.ats_own_examples.specs.Texts.{VerdictsAreWritten, behind_settings, bridge_settings, line_settings}

-- Texts by computation.

shown : PathsAreShown
unfolding digits show_text port_line classes_text rates_line sender_line totals_line
shown = record { of_own = refl; of_local = refl; of_bridge = refl; of_behind = refl }

accepted : VerdictsAreWritten
unfolding digits verdict.hop_line listener_lines
accepted = record { of_own = refl; of_bridge = refl; of_behind = refl; of_local = refl }

explained : StaysAreExplained
unfolding digits explain_text stream_line wait_text bound_text hop_line explain.port_line counts_text
explained = record { of_own = refl; of_bridge = refl; of_ending = refl; too_short = refl; of_local = refl }

told : OthersAreTold
unfolding digits settings.header
told = record {
  of_own = only own line_settings refl;
  of_bridge = only from_bridge bridge_settings refl;
  of_behind = only behind_bridge behind_settings refl;
  of_local = only local line_settings refl;
  own_written = refl;
  bridge_written = refl;
  behind_written = refl;
}

found : DelaysAreTold
unfolding digits witness_text found_text title_line witness.hop_line release_line witness_line
found = record { of_local = refl; of_bridge = refl }

pub texts_are_written : TextsAreWritten
texts_are_written = record {
  shown = shown;
  accepted = accepted;
  explained = explained;
  settings = told;
  delays = found;
}
