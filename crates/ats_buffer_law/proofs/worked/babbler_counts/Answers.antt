use Rattle.ats_buffer_law.proofs.WorkedProofs as worked
use Rattle.ats_buffer_law.proofs.worked.babbler_counts.Goals as goal

pub returns : goal.returns
returns c = worked.babbler_counts
