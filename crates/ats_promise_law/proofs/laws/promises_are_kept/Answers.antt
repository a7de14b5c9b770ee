use Rattle.ats_promise_law.proofs.Promised.{promises_are_kept}
use Rattle.ats_promise_law.proofs.laws.promises_are_kept.Goals as goal

pub returns : goal.returns
returns c = promises_are_kept
