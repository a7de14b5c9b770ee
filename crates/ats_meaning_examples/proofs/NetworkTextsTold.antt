-- Texts by their definitions.
use Rattle.std.proofs.Common.{refl}
use Rattle.ats_meaning_examples.specs.NetworkTexts.{JudgedTexts, NetworkTextsAreTold, RatesAreTold, ShownTexts}
use Rattle.ats_meaning_examples.specs.NetworkTexts.{TablesAreTold}
use Rattle.ats_certificate_file.specs.Reading.{header}
use Rattle.ats_network_text.specs.Text.{show_text}
use Rattle.ats_explain_text.specs.Text.{explain_text}
use Rattle.ats_verdict_text.specs.Text.{hop_line, listener_lines}

rates_are_told : RatesAreTold
rates_are_told = record {
  declared = λ s c. refl;
  first_declared = λ s seen. refl;
  later_declared = λ s scheduled seen. refl;
  hop_declared = λ topology s port. refl;
  hop = λ topology s port. refl;
  first_rates = λ s seen. refl;
  later_rates = λ s scheduled seen. refl;
}

tables_are_told : TablesAreTold
unfolding header
tables_are_told = record {
  table = λ records. refl;
  certificate = λ topology rows. refl;
  refused = λ why. refl;
  none_tightest = refl;
  tightest = λ t. refl;
}

shown_texts : ShownTexts
unfolding show_text
shown_texts = record {
  leg = λ topology word name s leg. refl;
  first = λ topology s. refl;
  further = λ topology s leg. refl;
  stream = λ topology s. refl;
  all = λ network. refl;
}

judged_texts : JudgedTexts
unfolding hop_line listener_lines explain_text
judged_texts = record {
  hop = λ topology rows s port. refl;
  listener = λ topology rows s l. refl;
  accepted = λ network rows. refl;
  explained_hop = λ network s port. refl;
  explained_listener = λ network s l. refl;
  explained_port = λ network n port. refl;
  explained = λ network. refl;
}

pub network_texts_are_told : NetworkTextsAreTold
network_texts_are_told = record {
  rates = rates_are_told;
  tables = tables_are_told;
  shown = shown_texts;
  judged = judged_texts;
}
