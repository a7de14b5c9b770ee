use Rattle.ats_witness_law.proofs.WorkedBursts as worked
use Rattle.ats_witness_law.proofs.worked.each_listener_is_found.Goals as goal

pub returns : goal.returns
returns c = worked.each_listener_is_found
