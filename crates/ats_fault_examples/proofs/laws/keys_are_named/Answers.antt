use Rattle.ats_fault_examples.proofs.KeysNamed.{keys_are_named}
use Rattle.ats_fault_examples.proofs.laws.keys_are_named.Goals as goal

pub returns : goal.returns
returns c = keys_are_named
