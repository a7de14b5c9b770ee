use Rattle.std.proofs.Common.{ℕ, List, Result, Ok, sym, subst, ◌≡◌}
use Rattle.std.specs.Global.{Vec}
use Rattle.ats_topology.specs.Topology.{DeclaredTopology}
use Rattle.ats_network.specs.Network.{DeclaredNetwork}
use Rattle.ats_certificate.specs.declared.row.Row.{Row}
use Rattle.ats_command_input.specs.Input.{rows_in}
use Rattle.ats_command_input.specs.Outcome.{Gives, IsStopOf}
use Rattle.ats_command_input.specs.declared.outcome.Stop.{Stop}
use Rattle.ats_command_input.proofs.Steps.{stops_all, goes_on, err_is, reads_stopped}
use Rattle.ats_command_due.specs.Judged.{buffers_judged, rows_judged}
use Rattle.ats_buffer_commands.proofs.buffers_command.buffers_in.Goals as goal

pub returns-in_err-rows-clause-due : goal.returns-in_err-rows-clause-due
returns-in_err-rows-clause-due g c = λ bytes told.
    let network : DeclaredNetwork = c.args.network.now in
    let certificate : List ℕ = c.args.certificate.now in
    let stops = subst (λ (t : DeclaredTopology). IsStopOf c.in_err-rows.field-0.0 (rows_in t certificate bytes))
    c.topology.ensures.value (c.in_err-rows.ensures.due bytes told) in
    subst (λ (r : Result (Vec ℕ) Stop). Gives (λ (text : Vec ℕ). text.items) r (rows_judged network certificate bytes))
    (sym (err_is c.from_residual.result c.in_err-rows.field-0.0 c.from_residual.ensures.1))
    (stops_all c.in_err-rows.field-0.0 (rows_in network.topology certificate bytes)
    (λ rows. buffers_judged network rows) stops)

pub returns-clause-due : goal.returns-clause-due
returns-clause-due g c = λ bytes told.
    let network : DeclaredNetwork = c.args.network.now in
    let certificate : List ℕ = c.args.certificate.now in
    let rows : List Row = c.in_ok-rows.rows in
    goes_on (λ (text : Vec ℕ). text.items) c.judgement_of.result (rows_in network.topology certificate bytes) rows
    (λ rows. buffers_judged network rows)
    (subst (λ (t : DeclaredTopology). rows_in t certificate bytes ≡ Ok rows) c.topology.ensures.value
    (c.in_ok-rows.ensures.due bytes told)) c.judgement_of.ensures.due

pub returns-in_err-rows-clause-reads : goal.returns-in_err-rows-clause-reads
returns-in_err-rows-clause-reads g c =
    reads_stopped c.in_err-rows.field-0.0 c.from_residual.result c.in_err-rows.ensures.reads c.from_residual.ensures.1
