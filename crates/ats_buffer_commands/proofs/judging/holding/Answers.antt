use Rattle.std.proofs.Common.{subst}
use Rattle.ats_num.specs.Failure.{IsDue}
use Rattle.ats_num.specs.declared.failure.Failure.{Failure}
use Rattle.ats_checker.specs.Refusal.{refusal_of}
use Rattle.ats_checker.specs.declared.refusal.Refusal.{Refusal}
use Rattle.ats_buffer_commands.proofs.Holding.{holding_gives, refused_gives}
use Rattle.ats_buffer_commands.proofs.judging.holding.Goals as goal

pub returns-in-Ok-clause-due : goal.returns-in-Ok-clause-due
returns-in-Ok-clause-due c =
    holding_gives c.args.network.now c.args.certificate.now tt c.topology-topology.ensures.rules c.in-Ok.ensures.holds

pub returns-in_ok-refused_certificate-in-Err-Fault-clause-due
    : goal.returns-in_ok-refused_certificate-in-Err-Fault-clause-due
returns-in_ok-refused_certificate-in-Err-Fault-clause-due c =
    refused_gives c.args.network.now c.args.certificate.now tt c.topology-topology.result.now c.in-Err-Fault.refusal
    c.in_ok-refused_certificate-in-Err-Fault.field-0.items c.topology-topology.ensures.value
    (subst (λ (failure : Failure Refusal). IsDue failure (refusal_of c.args.network.now c.args.certificate.now))
    c.in-Err-Fault.field-0-is c.in-Err-Fault.ensures.refused) c.in_ok-refused_certificate-in-Err-Fault.ensures
