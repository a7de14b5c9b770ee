use Rattle.ats_edge_examples.proofs.FaultOrderProofs.{faults_are_in_order}
use Rattle.ats_edge_examples.proofs.laws.faults_are_in_order.Goals as goal

pub returns : goal.returns
returns c = faults_are_in_order
