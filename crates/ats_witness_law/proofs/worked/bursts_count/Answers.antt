use Rattle.ats_witness_law.proofs.WorkedBursts as worked
use Rattle.ats_witness_law.proofs.worked.bursts_count.Goals as goal

pub returns : goal.returns
returns c = worked.bursts_count
