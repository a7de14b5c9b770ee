use Rattle.ats_text_law.proofs.Runs.{departures_tell_all}
use Rattle.ats_text_law.proofs.laws.departures_tell_all.Goals as goal

pub returns : goal.returns
returns c = departures_tell_all
