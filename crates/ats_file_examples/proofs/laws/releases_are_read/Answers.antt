use Rattle.ats_file_examples.proofs.RecordsRead.{releases_are_read}
use Rattle.ats_file_examples.proofs.laws.releases_are_read.Goals as goal

pub returns : goal.returns
returns c = releases_are_read
