use Rattle.ats_plain_promise_law.proofs.PromiseProofs.{promises_are_plain}
use Rattle.ats_plain_promise_law.proofs.laws.promises_are_plain.Goals as goal

pub returns : goal.returns
returns c = promises_are_plain
