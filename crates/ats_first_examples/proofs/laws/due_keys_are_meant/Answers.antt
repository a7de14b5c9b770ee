use Rattle.ats_first_examples.proofs.DueMeant.{due_keys_are_meant}
use Rattle.ats_first_examples.proofs.laws.due_keys_are_meant.Goals as goal

pub returns : goal.returns
returns c = due_keys_are_meant
