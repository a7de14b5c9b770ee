use Rattle.ats_buffer_law.proofs.Held as held
use Rattle.ats_buffer_law.proofs.laws.buffers_hold.Goals as goal

pub returns : goal.returns
returns c = held.buffers_hold
