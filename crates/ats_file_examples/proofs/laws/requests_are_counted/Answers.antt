use Rattle.ats_file_examples.proofs.LinesRead.{requests_are_counted}
use Rattle.ats_file_examples.proofs.laws.requests_are_counted.Goals as goal

pub returns : goal.returns
returns c = requests_are_counted
