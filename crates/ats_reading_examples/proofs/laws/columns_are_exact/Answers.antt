use Rattle.ats_reading_examples.proofs.ColumnProofs.{columns_are_exact}
use Rattle.ats_reading_examples.proofs.laws.columns_are_exact.Goals as goal

pub returns : goal.returns
returns c = columns_are_exact
