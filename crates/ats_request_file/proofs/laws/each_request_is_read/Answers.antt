use Rattle.ats_request_file.proofs.FaultFold.{request_is_read}
use Rattle.ats_request_file.proofs.laws.each_request_is_read.Goals as goal

pub returns : goal.returns
returns c = request_is_read
