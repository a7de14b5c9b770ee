use Rattle.ats_shape.proofs.FaultFold.{fault_is_first, first_is_answered}
use Rattle.ats_shape.proofs.laws.each_fault_is_the_first.Goals as goal

pub returns : goal.returns
returns c = λ text fault. (fault_is_first text fault, first_is_answered text fault)
