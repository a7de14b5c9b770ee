use Rattle.ats_plain_bound_law.proofs.BufferProofs.{buffers_are_reckoned}
use Rattle.ats_plain_bound_law.proofs.laws.buffers_are_reckoned.Goals as goal

pub returns : goal.returns
returns c = buffers_are_reckoned
