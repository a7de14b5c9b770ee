use Rattle.ats_plain_file_law.proofs.PositionProofs.{positions_are_read}
use Rattle.ats_plain_file_law.proofs.laws.positions_are_read.Goals as goal

pub returns : goal.returns
returns c = positions_are_read
