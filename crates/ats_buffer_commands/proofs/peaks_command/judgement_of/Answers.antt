use Rattle.std.proofs.Common.{List}
use Rattle.ats_network.specs.Network.{DeclaredNetwork}
use Rattle.ats_certificate.specs.declared.row.Row.{Row}
use Rattle.ats_command_input.proofs.Steps.{not_failed}
use Rattle.ats_command_due.specs.Held.{Held, IsHeldText, held}
use Rattle.ats_command_due.proofs.Replays.{stop_gives_one}
use Rattle.ats_buffer_commands.proofs.Holding.{passes_each, stops_each}
use Rattle.ats_buffer_commands.proofs.peaks_command.judgement_of.Goals as goal

pub returns-in_err-holding-clause-due : goal.returns-in_err-holding-clause-due
returns-in_err-holding-clause-due c =
    let network : DeclaredNetwork = c.args.network.now in
    let rows : List Row = c.args.certificate.now in
    stop_gives_one (IsHeldText c.args.order) c.from_residual.result c.in_err-holding.field-0.0 _
    c.from_residual.ensures.1
    (stops_each c.in_err-holding.field-0.0 network rows tt (held network rows c.args.releases.now)
    c.in_err-holding.ensures.due)

pub returns-clause-due : goal.returns-clause-due
returns-clause-due c =
    let h : Held = held c.args.network.now c.args.certificate.now c.args.releases.now in (
      h,
      passes_each c.args.network.now c.args.certificate.now tt _ h c.in_ok-holding.ensures.due,
      c.in_ok-text_of.ensures,
    )

pub returns-in_err-holding-clause-was_read : goal.returns-in_err-holding-clause-was_read
returns-in_err-holding-clause-was_read c =
    not_failed c.in_err-holding.field-0.0 c.from_residual.result c.in_err-holding.ensures.was_read
    c.from_residual.ensures.1
