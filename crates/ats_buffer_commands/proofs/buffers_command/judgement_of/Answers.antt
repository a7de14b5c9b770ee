use Rattle.std.proofs.Common.{ℕ, List, None, Result, Ok, sym, ap, subst, ◌∙◌}
use Rattle.std.specs.Global.{Vec}
use Rattle.ats_network.specs.Network.{DeclaredNetwork}
use Rattle.ats_certificate.specs.declared.row.Row.{Row}
use Rattle.ats_buffer.specs.Buffer.{buffers_of}
use Rattle.ats_buffer_text.specs.Text.{buffers_text}
use Rattle.ats_command_input.specs.Outcome.{Gives}
use Rattle.ats_command_input.specs.declared.outcome.Stop.{Stop}
use Rattle.ats_command_input.proofs.Steps.{err_is, not_failed}
use Rattle.ats_command_due.specs.Judged.{buffers_judged}
use Rattle.ats_buffer_commands.proofs.Holding.{passes_each, stops_each}
use Rattle.ats_buffer_commands.proofs.buffers_command.judgement_of.Goals as goal

pub returns-in_err-holding-clause-due : goal.returns-in_err-holding-clause-due
unfolding buffers_judged
returns-in_err-holding-clause-due c =
    let network : DeclaredNetwork = c.args.network.now in
    let rows : List Row = c.args.certificate.now in
    subst (λ (r : Result (Vec ℕ) Stop). Gives (λ (text : Vec ℕ). text.items) r (buffers_judged network rows))
    (sym (err_is c.from_residual.result c.in_err-holding.field-0.0 c.from_residual.ensures.1))
    (stops_each c.in_err-holding.field-0.0 network rows tt
    (buffers_text network.topology rows (buffers_of network rows) None) c.in_err-holding.ensures.due)

pub returns-clause-due : goal.returns-clause-due
unfolding buffers_judged
returns-clause-due c =
    passes_each c.args.network.now c.args.certificate.now tt _ _ c.in_ok-holding.ensures.due
    ∙ ap Ok (sym c.in_ok-text_of.ensures)

pub returns-in_err-holding-clause-was_read : goal.returns-in_err-holding-clause-was_read
returns-in_err-holding-clause-was_read c =
    not_failed c.in_err-holding.field-0.0 c.from_residual.result c.in_err-holding.ensures.was_read
    c.from_residual.ensures.1
