use Rattle.ats_meeting_examples.proofs.FlowProofs.{flows_share_ports}
use Rattle.ats_meeting_examples.proofs.laws.flows_share_ports.Goals as goal

pub returns : goal.returns
returns c = flows_share_ports
