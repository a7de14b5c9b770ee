use Rattle.std.proofs.Common.{sym, subst, ◌∙◌}
use Rattle.ats_num.specs.Failure.{Fails}
use Rattle.ats_num.specs.declared.failure.Failure.{Failure}
use Rattle.ats_requests.specs.Admission.{admit_lowest}
use Rattle.ats_requests.specs.declared.denied.Denied.{Denied}
use Rattle.ats_admission.proofs.After.{lowest_err}
use Rattle.ats_admission.proofs.session.Session.ask_lowest.Goals as goal

pub returns-in-Err-Fault-clause-after : goal.returns-in-Err-Fault-clause-after
returns-in-Err-Fault-clause-after c =
    c.in-Err-Fault.ensures.err
    ∙ sym (lowest_err c.args.self.now c.args.stream c.in-Err-Fault.denied
    (subst (λ (failure : Failure Denied). Fails failure (admit_lowest c.args.self.now c.args.stream))
    c.in-Err-Fault.field-0-is c.in-Err-Fault.ensures.answer))
