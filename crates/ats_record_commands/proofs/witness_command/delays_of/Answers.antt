use Rattle.std.proofs.Common.{subst}
use Rattle.ats_num.specs.Failure.{IsDue}
use Rattle.ats_num.specs.declared.failure.Failure.{Failure}
use Rattle.ats_bound.specs.Reason.{reason_of}
use Rattle.ats_tally.specs.declared.reason.Reason.{Reason}
use Rattle.ats_command_due.specs.Witnessed.{witnessed}
use Rattle.ats_verdict_text.proofs.ReasonPorts.{reason_inside}
use Rattle.ats_record_commands.proofs.Witnessing.{no_reason_passes, reason_refuses}
use Rattle.ats_record_commands.proofs.witness_command.delays_of.Goals as goal

pub refused_network-requires : goal.refused_network-requires
refused_network-requires c =
    reason_inside c.args.network.now c.topology-topology.result.now c.in-Err-Fault.reason
    c.topology-topology.ensures.rules c.topology-topology.ensures.value
    (subst (λ (answer : Failure Reason). IsDue answer (reason_of c.args.network.now))
    c.in-Err-Fault.field-0-is c.in-Err-Fault.ensures.reason)

pub returns-in_ok-text_of-in-Ok-clause-due : goal.returns-in_ok-text_of-in-Ok-clause-due
returns-in_ok-text_of-in-Ok-clause-due c = (
  witnessed c.args.network.now c.args.stream,
  no_reason_passes c.args.network.now c.args.stream c.in-Ok.ensures.sound,
  c.in_ok-text_of-in-Ok.ensures,
)

pub returns-in_ok-refused_network-in-Err-Fault-clause-due : goal.returns-in_ok-refused_network-in-Err-Fault-clause-due
returns-in_ok-refused_network-in-Err-Fault-clause-due c =
    reason_refuses c.args.network.now c.args.stream c.topology-topology.result.now c.in-Err-Fault.reason
    c.in_ok-refused_network-in-Err-Fault.field-0.items c.topology-topology.ensures.value
    (subst (λ (answer : Failure Reason). IsDue answer (reason_of c.args.network.now))
    c.in-Err-Fault.field-0-is c.in-Err-Fault.ensures.reason) c.in_ok-refused_network-in-Err-Fault.ensures
