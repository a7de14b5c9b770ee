use Rattle.ats_fault_examples.proofs.LimitsAllowed.{limits_are_allowed}
use Rattle.ats_fault_examples.proofs.laws.limits_are_allowed.Goals as goal

pub returns : goal.returns
returns c = limits_are_allowed
