use Rattle.ats_promise_law.proofs.Printed.{printed_texts_are_due}
use Rattle.ats_promise_law.proofs.laws.printed_texts_are_due.Goals as goal

pub returns : goal.returns
returns c = printed_texts_are_due
