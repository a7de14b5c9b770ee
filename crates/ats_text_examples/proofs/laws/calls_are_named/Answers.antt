use Rattle.ats_text_examples.proofs.CallsNamed.{calls_are_named}
use Rattle.ats_text_examples.proofs.laws.calls_are_named.Goals as goal

pub returns : goal.returns
returns c = calls_are_named
