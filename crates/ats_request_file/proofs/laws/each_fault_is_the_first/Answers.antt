use Rattle.ats_request_file.proofs.FaultFold.{fault_is_first, first_is_answered}
use Rattle.ats_request_file.proofs.laws.each_fault_is_the_first.Goals as goal

pub returns : goal.returns
returns c = λ topology text fault. (fault_is_first topology text fault, first_is_answered topology text fault)
