use Rattle.ats_plain_bound_law.proofs.LeastRowProofs.{least_rows_are_reckoned}
use Rattle.ats_plain_bound_law.proofs.laws.least_rows_are_reckoned.Goals as goal

pub returns : goal.returns
returns c = least_rows_are_reckoned
