use Rattle.ats_buffer_law.proofs.WorkedProofs as worked
use Rattle.ats_buffer_law.proofs.worked.copies_are_held.Goals as goal

pub returns : goal.returns
returns c = worked.copies_are_held
