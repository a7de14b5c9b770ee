use Rattle.ats_plain_file_law.proofs.AskedProofs.{request_lines_are_read}
use Rattle.ats_plain_file_law.proofs.laws.request_lines_are_read.Goals as goal

pub returns : goal.returns
returns c = request_lines_are_read
