use Rattle.ats_verdict_examples.proofs.FirstBreaks.{first_broken_is_named}
use Rattle.ats_verdict_examples.proofs.laws.first_broken_is_named.Goals as goal

pub returns : goal.returns
returns c = first_broken_is_named
