use Rattle.ats_first_examples.proofs.TablesFirst.{tables_are_first}
use Rattle.ats_first_examples.proofs.laws.tables_are_first.Goals as goal

pub returns : goal.returns
returns c = tables_are_first
