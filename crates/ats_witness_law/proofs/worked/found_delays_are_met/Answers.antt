use Rattle.ats_witness_law.proofs.WorkedBursts as worked
use Rattle.ats_witness_law.proofs.worked.found_delays_are_met.Goals as goal

pub returns : goal.returns
returns c = worked.found_delays_are_met
