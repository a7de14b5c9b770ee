use Rattle.ats_listener_law.proofs.Overdue.{one_is_first_overdue}
use Rattle.ats_listener_law.proofs.laws.one_is_first_overdue.Goals as goal

pub returns : goal.returns
returns c = one_is_first_overdue
