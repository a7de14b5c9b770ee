use Rattle.ats_order_examples.proofs.FlowProofs.{flows_are_kept}
use Rattle.ats_order_examples.proofs.laws.flows_are_kept.Goals as goal

pub returns : goal.returns
returns c = flows_are_kept
