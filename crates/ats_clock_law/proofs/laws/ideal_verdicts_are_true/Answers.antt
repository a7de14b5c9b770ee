use Rattle.ats_clock_law.proofs.Ideal.{constant_apart, verdicts_true}
use Rattle.ats_clock_law.proofs.Shift.{shift_not_seen}
use Rattle.ats_clock_law.proofs.laws.ideal_verdicts_are_true.Goals as goal

pub returns-clause-constant : goal.returns-clause-constant
returns-clause-constant c = constant_apart

pub returns-clause-shift : goal.returns-clause-shift
returns-clause-shift c = shift_not_seen

pub returns-clause-verdicts : goal.returns-clause-verdicts
returns-clause-verdicts c = verdicts_true
