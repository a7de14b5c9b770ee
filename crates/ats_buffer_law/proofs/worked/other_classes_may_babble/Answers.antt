use Rattle.ats_buffer_law.proofs.WorkedProofs as worked
use Rattle.ats_buffer_law.proofs.worked.other_classes_may_babble.Goals as goal

pub returns : goal.returns
returns c = worked.other_classes_may_babble
