use Rattle.ats_file_examples.proofs.LinesRead.{shape_is_counted}
use Rattle.ats_file_examples.proofs.laws.shape_is_counted.Goals as goal

pub returns : goal.returns
returns c = shape_is_counted
