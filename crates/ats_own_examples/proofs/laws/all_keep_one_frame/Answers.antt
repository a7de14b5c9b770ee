use Rattle.ats_own_examples.proofs.NarrowedProofs.{all_keep_one_frame}
use Rattle.ats_own_examples.proofs.laws.all_keep_one_frame.Goals as goal

pub returns : goal.returns
returns c = all_keep_one_frame
