use Rattle.ats_examples.proofs.GroupProofs.{numbers_are_own}
use Rattle.ats_examples.proofs.group_laws.numbers_are_own.Goals as goal

pub returns : goal.returns
returns c = numbers_are_own
