use Rattle.ats_steady_law.proofs.RestProofs.{each_scheduler_rests}
use Rattle.ats_steady_law.proofs.laws.each_scheduler_rests.Goals as goal

pub returns : goal.returns
returns c = each_scheduler_rests
