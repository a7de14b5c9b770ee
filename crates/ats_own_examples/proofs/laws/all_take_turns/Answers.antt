use Rattle.ats_own_examples.proofs.MadeProofs.{all_take_turns}
use Rattle.ats_own_examples.proofs.laws.all_take_turns.Goals as goal

pub returns : goal.returns
returns c = all_take_turns
