use Rattle.ats_buffer_law.proofs.WorkedProofs as worked
use Rattle.ats_buffer_law.proofs.worked.buffers_are_met.Goals as goal

pub returns : goal.returns
returns c = worked.buffers_are_met
