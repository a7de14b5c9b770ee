use Rattle.ats_command_law.proofs.OneAnswer.{one_answer}
use Rattle.ats_command_law.proofs.laws.one_answer_is_due.Goals as goal

pub returns : goal.returns
returns c = one_answer c.least_burst_exists.ensures c.measured_is_one.ensures
