use Rattle.ats_first_examples.proofs.CapturesFirst.{captures_are_first}
use Rattle.ats_first_examples.proofs.laws.captures_are_first.Goals as goal

pub returns : goal.returns
returns c = captures_are_first
