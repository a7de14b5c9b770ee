use Rattle.ats_buffer_law.proofs.Held as held
use Rattle.ats_buffer_law.proofs.laws.stations_are_asked.Goals as goal

pub returns : goal.returns
returns c = held.stations_are_asked
