use Rattle.std.proofs.Common.{ap, subst, ◌∙◌}
use Rattle.ats_num.specs.Failure.{IsDue}
use Rattle.ats_num.specs.declared.failure.Failure.{Failure}
use Rattle.ats_tally.specs.Delays.{NetworkRows}
use Rattle.ats_verdict_text.specs.Text.{accepted_text}
use Rattle.ats_checker.specs.Refusal.{refusal_of}
use Rattle.ats_checker.specs.declared.refusal.Refusal.{Refusal}
use Rattle.ats_soundness_law.proofs.TrueTime.{certificate_is_sound}
use Rattle.ats_checker.proofs.InTime.{holding_is_in_time}
use Rattle.ats_verdict_commands.proofs.Judging.{check_text, check_refused}
use Rattle.ats_verdict_commands.proofs.check_command.judgement_of.Goals as goal

pub returns-in_ok-accepted-in-Ok-clause-due : goal.returns-in_ok-accepted-in-Ok-clause-due
returns-in_ok-accepted-in-Ok-clause-due c =
    check_text c.args.network.now c.args.certificate.now c.in_ok-accepted-in-Ok.field-0.items
    c.topology-topology.ensures.rules
    c.in-Ok.ensures.holds
    (c.in_ok-accepted-in-Ok.ensures ∙ ap (λ (d : NetworkRows). accepted_text d.network d.rows) c.in-Ok.ensures.ok)

pub returns-in_ok-accepted-in-Ok-clause-sound : goal.returns-in_ok-accepted-in-Ok-clause-sound
returns-in_ok-accepted-in-Ok-clause-sound c = record {
  sound = certificate_is_sound c.args.network.now c.args.certificate.now c.topology-topology.ensures.rules
      c.in-Ok.ensures.holds;
  in_time = holding_is_in_time c.args.network.now c.args.certificate.now c.topology-topology.ensures.rules
      c.in-Ok.ensures.holds;
  written = c.in_ok-accepted-in-Ok.ensures
      ∙ ap (λ (d : NetworkRows). accepted_text d.network d.rows) c.in-Ok.ensures.ok;
}

pub returns-in_ok-refused_certificate-in-Err-Fault-clause-due
    : goal.returns-in_ok-refused_certificate-in-Err-Fault-clause-due
returns-in_ok-refused_certificate-in-Err-Fault-clause-due c =
    check_refused c.args.network.now c.args.certificate.now c.topology-topology.result.now c.in-Err-Fault.refusal
    c.in_ok-refused_certificate-in-Err-Fault.field-0.items c.topology-topology.ensures.value
    (subst (λ (failure : Failure Refusal). IsDue failure (refusal_of c.args.network.now c.args.certificate.now))
    c.in-Err-Fault.field-0-is c.in-Err-Fault.ensures.refused) c.in_ok-refused_certificate-in-Err-Fault.ensures
