use Rattle.ats_plain_file_law.proofs.CutProofs.{text_lines_are_read}
use Rattle.ats_plain_file_law.proofs.laws.text_lines_are_read.Goals as goal

pub returns : goal.returns
returns c = text_lines_are_read
