use Rattle.ats_clock_law.proofs.TrueTime.{each_time_is_shown, true_eligibility, true_verdicts}
use Rattle.ats_clock_law.proofs.laws.true_eligibility_is.Goals as goal

pub returns-clause-found : goal.returns-clause-found
returns-clause-found c = true_eligibility

pub returns-clause-shown : goal.returns-clause-shown
returns-clause-shown c = each_time_is_shown

pub returns-clause-verdicts : goal.returns-clause-verdicts
returns-clause-verdicts c = true_verdicts
