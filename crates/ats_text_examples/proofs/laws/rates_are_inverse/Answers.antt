use Rattle.ats_text_examples.proofs.Rates.{rates_are_inverse}
use Rattle.ats_text_examples.proofs.laws.rates_are_inverse.Goals as goal

pub returns : goal.returns
returns c = rates_are_inverse
