use Rattle.ats_clock_law.proofs.Retiming.{retimed_conform}
use Rattle.ats_clock_law.proofs.laws.retimed_conform.Goals as goal

pub returns : goal.returns
returns c = retimed_conform
