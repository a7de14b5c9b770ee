use Rattle.std.proofs.Common.{◌∙◌, ap, subst}
use Rattle.ats_num.specs.Failure.{IsDue}
use Rattle.ats_num.specs.declared.failure.Failure.{Failure}
use Rattle.ats_certificate.specs.Used.{places_of}
use Rattle.ats_tally.specs.Reason.{first_some}
use Rattle.ats_tally.specs.declared.reason.Reason.{Reason}
use Rattle.ats_bound.specs.Reason.{overload}
use Rattle.ats_explain_text.specs.Text.{explain_text}
use Rattle.ats_verdict_commands.proofs.Explaining.{overload_inside, explain_text_is, explain_refused}
use Rattle.ats_verdict_commands.proofs.explain_command.explanation_of.Goals as goal

pub refused_network-requires : goal.refused_network-requires
refused_network-requires c =
    overload_inside c.args.network.now c.topology-topology.result.now c.in-Err-Fault.reason
    c.topology-topology.ensures.rules c.topology-topology.ensures.value
    (subst (λ (answer : Failure Reason). IsDue answer (first_some (overload c.args.network.now)
    (places_of c.args.network.now))) c.in-Err-Fault.field-0-is c.in-Err-Fault.ensures.reason)

pub returns-in_ok-explained-in-Ok-clause-due : goal.returns-in_ok-explained-in-Ok-clause-due
returns-in_ok-explained-in-Ok-clause-due c =
    explain_text_is c.args.network.now c.in_ok-explained-in-Ok.field-0.items c.in-Ok.ensures.carries
    (c.in_ok-explained-in-Ok.ensures ∙ ap explain_text c.in-Ok.ensures.value)

pub returns-in_ok-refused_network-in-Err-Fault-clause-due : goal.returns-in_ok-refused_network-in-Err-Fault-clause-due
returns-in_ok-refused_network-in-Err-Fault-clause-due c =
    explain_refused c.args.network.now c.topology-topology.result.now c.in-Err-Fault.reason
    c.in_ok-refused_network-in-Err-Fault.field-0.items c.topology-topology.ensures.value
    (subst (λ (answer : Failure Reason). IsDue answer (first_some (overload c.args.network.now)
    (places_of c.args.network.now))) c.in-Err-Fault.field-0-is c.in-Err-Fault.ensures.reason)
    c.in_ok-refused_network-in-Err-Fault.ensures
