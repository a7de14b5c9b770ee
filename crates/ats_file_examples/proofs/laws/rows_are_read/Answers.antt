use Rattle.ats_file_examples.proofs.RecordsRead.{rows_are_read}
use Rattle.ats_file_examples.proofs.laws.rows_are_read.Goals as goal

pub returns : goal.returns
returns c = rows_are_read
