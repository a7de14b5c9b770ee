use Rattle.ats_buffer_law.proofs.Held as held
use Rattle.ats_buffer_law.proofs.laws.peaks_fit.Goals as goal

pub returns : goal.returns
returns c = held.peaks_fit
