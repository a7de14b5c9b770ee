use Rattle.std.proofs.Common.{ℕ, List, Result, sym, subst}
use Rattle.std.specs.Global.{Vec}
use Rattle.ats_network.specs.Network.{DeclaredNetwork}
use Rattle.ats_command_input.specs.Input.{requests_in}
use Rattle.ats_command_input.specs.Outcome.{Gives}
use Rattle.ats_command_input.specs.declared.outcome.Stop.{Stop}
use Rattle.ats_command_input.proofs.Steps.{stops_all, goes_on, err_is, reads_stopped}
use Rattle.ats_command_due.specs.Judged.{admission_judged, requests_judged}
use Rattle.ats_verdict_commands.proofs.admit_command.admission_of.Goals as goal

pub returns-in_err-asked-clause-due : goal.returns-in_err-asked-clause-due
returns-in_err-asked-clause-due g c = λ bytes told.
    let network : DeclaredNetwork = c.args.network in
    let requests : List ℕ = c.args.requests.now in
    subst (λ (r : Result (Vec ℕ) Stop). Gives (λ (text : Vec ℕ). text.items) r
    (requests_judged network requests bytes))
    (sym (err_is c.from_residual.result c.in_err-asked.field-0.0 c.from_residual.ensures.1))
    (stops_all c.in_err-asked.field-0.0 (requests_in network requests bytes)
    (λ asked. admission_judged network asked) (c.in_err-asked.ensures.due bytes told))

pub returns-clause-due : goal.returns-clause-due
returns-clause-due g c = λ bytes told.
    let network : DeclaredNetwork = c.args.network in
    let requests : List ℕ = c.args.requests.now in
    goes_on (λ (text : Vec ℕ). text.items) c.answers_of.result (requests_in network requests bytes)
    c.in_ok-asked.asked.items (λ asked. admission_judged network asked)
    (c.in_ok-asked.ensures.due bytes told) c.answers_of.ensures.due

pub returns-in_err-asked-clause-reads : goal.returns-in_err-asked-clause-reads
returns-in_err-asked-clause-reads g c =
    reads_stopped c.in_err-asked.field-0.0 c.from_residual.result c.in_err-asked.ensures.reads c.from_residual.ensures.1
