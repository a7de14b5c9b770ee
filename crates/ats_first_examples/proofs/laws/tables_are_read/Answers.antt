use Rattle.ats_first_examples.proofs.DocumentsStand.{tables_are_read}
use Rattle.ats_first_examples.proofs.laws.tables_are_read.Goals as goal

pub returns : goal.returns
returns c = tables_are_read
