use Rattle.std.proofs.Common.{subst}
use Rattle.ats_num.specs.Failure.{IsDue}
use Rattle.ats_num.specs.declared.failure.Failure.{Failure}
use Rattle.ats_tally.specs.declared.reason.Reason.{Reason}
use Rattle.ats_bound.specs.Reason.{reason_of}
use Rattle.ats_verdict_commands.proofs.Admitting.{admission_refused}
use Rattle.ats_verdict_text.proofs.ReasonPorts.{reason_inside}
use Rattle.ats_verdict_commands.proofs.admit_command.refusal_for.Goals as goal

pub refused_network-requires : goal.refused_network-requires
refused_network-requires c =
    reason_inside c.args.network.now c.topology-topology.result.now c.in-Fault.reason
    c.topology-topology.ensures.rules c.topology-topology.ensures.value
    (subst (λ (failure : Failure Reason). IsDue failure (reason_of c.args.network.now)) c.in-Fault.is c.requires)

pub returns-in_ok-refused_network-in-Fault-clause-due : goal.returns-in_ok-refused_network-in-Fault-clause-due
returns-in_ok-refused_network-in-Fault-clause-due c = λ asked.
    admission_refused c.args.network.now asked c.topology-topology.result.now c.in-Fault.reason
    c.in_ok-refused_network-in-Fault.field-0.items c.topology-topology.ensures.value
    (subst (λ (failure : Failure Reason). IsDue failure (reason_of c.args.network.now)) c.in-Fault.is c.requires)
    c.in_ok-refused_network-in-Fault.ensures
