use Rattle.ats_plain_file_law.proofs.ReadProofs.{files_are_read}
use Rattle.ats_plain_file_law.proofs.laws.files_are_read.Goals as goal

pub returns : goal.returns
returns c = files_are_read
