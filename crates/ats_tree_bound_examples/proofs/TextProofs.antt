use Rattle.std.proofs.Common.{refl}
use Rattle.std.specs.Fmt.{digits}
use Rattle.ats_network_text.specs.Text.{show_text, port_line, classes_text, rates_line, sender_line, totals_line}
use Rattle.ats_verdict_text.specs.Text.{accepted_text, listener_lines}
use Rattle.ats_verdict_text.specs.Text as verdict
use Rattle.ats_explain_text.specs.Text.{explain_text, stream_line, wait_text, bound_text, hop_line, counts_text}
use Rattle.ats_explain_text.specs.Text as explain
use Rattle.ats_tree_bound_examples.specs.RateTexts.{RatesAreShown}
use Rattle.ats_tree_bound_examples.specs.Texts.{BoundsAreWritten, ExplanationIsWritten, LegsAreShown}
use Rattle.ats_tree_bound_examples.specs.Texts.{ReasonsAreWritten}

-- Texts by computation.

pub reasons_are_written : ReasonsAreWritten
unfolding digits
reasons_are_written = record {
  for_further = refl;
  for_first = refl;
  bound = refl;
  check = refl;
  check_first = refl;
}

pub bounds_are_written : BoundsAreWritten
unfolding digits verdict.hop_line listener_lines
bounds_are_written = record { in_order = refl; in_another_order = refl }

pub legs_are_shown : LegsAreShown
unfolding digits show_text port_line classes_text rates_line sender_line totals_line
legs_are_shown = record { classes = refl; in_another_order = refl; in_another_class = refl }

pub rates_are_shown : RatesAreShown
unfolding digits show_text port_line classes_text rates_line sender_line totals_line
rates_are_shown = record { show = refl }

pub explanation_is_written : ExplanationIsWritten
unfolding digits explain_text stream_line wait_text bound_text hop_line explain.port_line counts_text
explanation_is_written = record { explain = refl; in_another_order = refl }
