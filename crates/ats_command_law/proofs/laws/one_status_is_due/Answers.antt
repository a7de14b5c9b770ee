use Rattle.ats_command_law.proofs.OneAnswer.{one_status_due}
use Rattle.ats_command_law.proofs.laws.one_status_is_due.Goals as goal

pub returns : goal.returns
returns c = one_status_due
