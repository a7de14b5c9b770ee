use Rattle.ats_command_law.proofs.WorstBound.{printed_worst_is_within}
use Rattle.ats_command_law.proofs.laws.printed_worst_is_within.Goals as goal

pub returns : goal.returns
returns c = printed_worst_is_within
