use Rattle.std.proofs.Common.{rules}
use Rattle.ats_network.specs.Pushes.{with_flow, flow_push_fault}
use Rattle.ats_network_file.proofs.flows.FlowEntrySenderEntry.add.Goals as goal

pub returns-in-Err : goal.returns-in-Err
returns-in-Err c =
    let due = c.refused.ensures (flow_push_fault c.args.network.now c.in_ok-flow.flow)
    (with_flow c.args.network.now c.in_ok-flow.flow) c.in-Err.ensures.fault in
    search rules
