use Rattle.ats_file_examples.proofs.KeysTogether.{keys_go_together}
use Rattle.ats_file_examples.proofs.laws.keys_go_together.Goals as goal

pub returns : goal.returns
returns c = keys_go_together
