use Rattle.ats_witness_law.proofs.WorkedListeners as worked
use Rattle.ats_witness_law.proofs.worked.further_listeners_are_found.Goals as goal

pub returns : goal.returns
returns c = worked.further_listeners_are_found
