use Rattle.ats_verdict_examples.proofs.CausesFirst.{causes_are_first}
use Rattle.ats_verdict_examples.proofs.laws.causes_are_first.Goals as goal

pub returns : goal.returns
returns c = causes_are_first
