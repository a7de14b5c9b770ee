use Rattle.std.proofs.Common.{subst}
use Rattle.ats_num.specs.Failure.{IsDue}
use Rattle.ats_num.specs.declared.failure.Failure.{Failure}
use Rattle.ats_tally.specs.declared.reason.Reason.{Reason}
use Rattle.ats_bound.specs.Reason.{reason_of}
use Rattle.ats_verdict_text.proofs.ReasonPorts.{reason_inside}
use Rattle.ats_verdict_commands.proofs.Judging.{least_inside, bound_text, bound_refused}
use Rattle.ats_verdict_commands.proofs.bound_command.certificate_of.Goals as goal

pub write_certificate-requires : goal.write_certificate-requires
write_certificate-requires c = least_inside c.args.network.now c.topology-topology.result.now c.in-Ok.certificate
    c.topology-topology.ensures.rules c.topology-topology.ensures.value c.in-Ok.ensures.value

pub refused_network-requires : goal.refused_network-requires
refused_network-requires c =
    reason_inside c.args.network.now c.topology-topology.result.now c.in-Err-Fault.reason
    c.topology-topology.ensures.rules c.topology-topology.ensures.value
    (subst (λ (answer : Failure Reason). IsDue answer (reason_of c.args.network.now))
    c.in-Err-Fault.field-0-is c.in-Err-Fault.ensures.reason)

pub returns-in_ok-write_certificate-in-Ok-clause-due : goal.returns-in_ok-write_certificate-in-Ok-clause-due
returns-in_ok-write_certificate-in-Ok-clause-due c =
    bound_text c.args.network.now c.topology-topology.result.now c.in-Ok.certificate
    c.in_ok-write_certificate-in-Ok.field-0.items
    c.topology-topology.ensures.value c.in-Ok.ensures.value c.in-Ok.ensures.sound
    c.in_ok-write_certificate-in-Ok.ensures

pub returns-in_ok-refused_network-in-Err-Fault-clause-due : goal.returns-in_ok-refused_network-in-Err-Fault-clause-due
returns-in_ok-refused_network-in-Err-Fault-clause-due c =
    bound_refused c.args.network.now c.topology-topology.result.now c.in-Err-Fault.reason
    c.in_ok-refused_network-in-Err-Fault.field-0.items c.topology-topology.ensures.value
    (subst (λ (answer : Failure Reason). IsDue answer (reason_of c.args.network.now))
    c.in-Err-Fault.field-0-is c.in-Err-Fault.ensures.reason) c.in_ok-refused_network-in-Err-Fault.ensures
