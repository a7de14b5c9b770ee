use Rattle.ats_schedule.proofs.ReadsBack.{schedule_reads_back}
use Rattle.ats_schedule.proofs.laws.schedule_reads_back.Goals as goal

pub returns : goal.returns
returns c = schedule_reads_back
