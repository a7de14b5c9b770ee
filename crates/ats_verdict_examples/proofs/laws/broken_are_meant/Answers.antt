use Rattle.ats_verdict_examples.proofs.FirstBreaks.{broken_are_meant}
use Rattle.ats_verdict_examples.proofs.laws.broken_are_meant.Goals as goal

pub returns : goal.returns
returns c = broken_are_meant
