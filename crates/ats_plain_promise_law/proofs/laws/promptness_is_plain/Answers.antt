use Rattle.ats_plain_promise_law.proofs.PromptnessProofs.{promptness_is_plain}
use Rattle.ats_plain_promise_law.proofs.laws.promptness_is_plain.Goals as goal

pub returns : goal.returns
returns c = promptness_is_plain
