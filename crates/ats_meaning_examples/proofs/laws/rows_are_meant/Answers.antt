use Rattle.ats_meaning_examples.proofs.RowParts.{rows_are_meant}
use Rattle.ats_meaning_examples.proofs.laws.rows_are_meant.Goals as goal

pub returns : goal.returns
returns c = rows_are_meant
