use Rattle.ats_first_examples.proofs.RulesFirst.{rules_are_first}
use Rattle.ats_first_examples.proofs.laws.rules_are_first.Goals as goal

pub returns : goal.returns
returns c = rules_are_first
