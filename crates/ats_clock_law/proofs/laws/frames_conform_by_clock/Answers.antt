use Rattle.ats_clock_law.proofs.ByClock.{sent_by_clock, shown_conform}
use Rattle.ats_clock_law.proofs.laws.frames_conform_by_clock.Goals as goal

pub returns-clause-shown : goal.returns-clause-shown
returns-clause-shown c = shown_conform

pub returns-clause-sent : goal.returns-clause-sent
returns-clause-sent c = sent_by_clock
