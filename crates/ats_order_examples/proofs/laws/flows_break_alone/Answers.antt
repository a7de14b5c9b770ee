use Rattle.ats_order_examples.proofs.FlowBreakProofs.{flows_break_alone}
use Rattle.ats_order_examples.proofs.laws.flows_break_alone.Goals as goal

pub returns : goal.returns
returns c = flows_break_alone
