use Rattle.ats_order_examples.proofs.KeyProofs.{keys_are_of_all}
use Rattle.ats_order_examples.proofs.laws.keys_are_of_all.Goals as goal

pub returns : goal.returns
returns c = keys_are_of_all
