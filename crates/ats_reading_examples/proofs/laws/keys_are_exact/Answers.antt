use Rattle.ats_reading_examples.proofs.KeyProofs.{keys_are_exact}
use Rattle.ats_reading_examples.proofs.laws.keys_are_exact.Goals as goal

pub returns : goal.returns
returns c = keys_are_exact
