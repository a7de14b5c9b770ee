use Rattle.ats_plain_file_law.proofs.ShapeProofs.{shape_lines_are_read}
use Rattle.ats_plain_file_law.proofs.laws.shape_lines_are_read.Goals as goal

pub returns : goal.returns
returns c = shape_lines_are_read
