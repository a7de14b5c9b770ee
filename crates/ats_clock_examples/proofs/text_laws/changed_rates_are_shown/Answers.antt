use Rattle.ats_clock_examples.proofs.RateTextProofs.{changed_rates_are_shown}
use Rattle.ats_clock_examples.proofs.text_laws.changed_rates_are_shown.Goals as goal

pub returns : goal.returns
returns c = changed_rates_are_shown
