use Rattle.std.proofs.Common.{ℕ, List, Result, Some, Ok, sym, subst, ◌≡◌}
use Rattle.std.specs.Global.{Vec}
use Rattle.ats_topology.specs.Topology.{DeclaredTopology}
use Rattle.ats_network.specs.Network.{DeclaredNetwork}
use Rattle.ats_certificate.specs.Certificate.{Holds}
use Rattle.ats_certificate.specs.declared.row.Row.{Row}
use Rattle.ats_verdict_text.specs.Text.{accepted_text}
use Rattle.ats_lrq.specs.Narrow.{narrowed}
use Rattle.ats_command_input.specs.Input.{rows_in}
use Rattle.ats_command_input.specs.Outcome.{Gives, IsStopOf}
use Rattle.ats_command_input.specs.declared.outcome.Stop.{Stop}
use Rattle.ats_command_input.proofs.Steps.{stops_all, goes_on, err_is, reads_stopped}
use Rattle.ats_command_due.specs.Judged.{certificate_judged, check_judged}
use Rattle.ats_lrq_commands.specs.Sound.{IsSpacedFile}
use Rattle.ats_lrq_commands.proofs.Narrowed.{holding_then, narrowed_text_is_sound}
use Rattle.ats_lrq_commands.proofs.check_command.verdict_of.Goals as goal

pub returns-in_err-rows-clause-due : goal.returns-in_err-rows-clause-due
returns-in_err-rows-clause-due g c = λ bytes told.
    let network : DeclaredNetwork = c.args.network in
    let certificate : List ℕ = c.args.certificate.now in
    let stops = subst (λ (t : DeclaredTopology). IsStopOf c.in_err-rows.field-0.0 (rows_in t certificate bytes))
    c.topology.ensures.value (c.in_err-rows.ensures.due bytes told) in
    subst (λ (r : Result (Vec ℕ) Stop). Gives (λ (text : Vec ℕ). text.items) r
    (certificate_judged (narrowed network) certificate bytes))
    (sym (err_is c.from_residual.result c.in_err-rows.field-0.0 c.from_residual.ensures.1))
    (stops_all c.in_err-rows.field-0.0 (rows_in network.topology certificate bytes)
    (λ rows. check_judged (narrowed network) rows) stops)

pub returns-clause-due : goal.returns-clause-due
returns-clause-due g c = λ bytes told.
    let network : DeclaredNetwork = c.args.network in
    let certificate : List ℕ = c.args.certificate.now in
    let rows : List Row = c.in_ok-rows.rows in
    goes_on (λ (text : Vec ℕ). text.items) c.judgement_of.result (rows_in network.topology certificate bytes) rows
    (λ rows. check_judged (narrowed network) rows)
    (subst (λ (t : DeclaredTopology). rows_in t certificate bytes ≡ Ok rows) c.topology.ensures.value
    (c.in_ok-rows.ensures.due bytes told)) c.judgement_of.ensures.due

pub returns-clause-sound : goal.returns-clause-sound
returns-clause-sound g c =
    let network : DeclaredNetwork = c.args.network in
    let certificate : List ℕ = c.args.certificate.now in
    let rows : List Row = c.in_ok-rows.rows in
    holding_then c.judgement_of.result (Holds (narrowed network) rows)
    (λ text. text ≡ accepted_text (narrowed network) rows)
    (λ text. (bytes : List ℕ) → g.F.Files.told c.args.files.now certificate ≡ Some bytes
    → IsSpacedFile network certificate bytes text)
    c.judgement_of.ensures.holds c.judgement_of.ensures.written
    (λ text holds written bytes told. (
      rows,
      subst (λ (t : DeclaredTopology). rows_in t certificate bytes ≡ Ok rows) c.topology.ensures.value
          (c.in_ok-rows.ensures.due bytes told),
      narrowed_text_is_sound network rows text c.topology.ensures.rules holds written,
    ))

pub returns-in_err-rows-clause-reads : goal.returns-in_err-rows-clause-reads
returns-in_err-rows-clause-reads g c =
    reads_stopped c.in_err-rows.field-0.0 c.from_residual.result c.in_err-rows.ensures.reads c.from_residual.ensures.1
