use Rattle.ats_trace.proofs.PartProofs.{legal_is_each_part}
use Rattle.ats_trace.proofs.laws.legal_is_each_part.Goals as goal

pub returns : goal.returns
returns c = legal_is_each_part
