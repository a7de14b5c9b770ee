use Rattle.std.proofs.Common.{◌<◌, List, length, Result, refl, sym, subst}
use Rattle.std.specs.Prelude.{All}
use Rattle.ats_certificate.specs.declared.row.Row.{Row}
use Rattle.ats_certificate_file.specs.Reading.{rows_of}
use Rattle.ats_certificate_file.specs.FaultText.{fault_text}
use Rattle.ats_command_input.specs.Input.{bytes_in, declared_in, rows_in}
use Rattle.ats_command_input.specs.Outcome.{Gives}
use Rattle.ats_command_input.specs.declared.outcome.Stop.{Stop}
use Rattle.ats_command_input.proofs.RowPorts.{rows_inside}
use Rattle.ats_command_input.proofs.Steps.{reads_stopped, stops_all, err_is, declares, declared_keeps}
use Rattle.ats_command_input.proofs.input_file.certificate_in.Goals as goal

pub returns-in_err-bytes-clause-due : goal.returns-in_err-bytes-clause-due
unfolding rows_in
returns-in_err-bytes-clause-due g c = λ bytes told.
    subst (λ (r : Result (List Row) Stop).
    Gives (λ (rows : List Row). rows) r (rows_in c.args.topology.now c.args.file.now bytes))
    (sym (err_is c.from_residual.result c.in_err-bytes.field-0.0 c.from_residual.ensures.1))
    (stops_all c.in_err-bytes.field-0.0 (bytes_in 16777216 c.args.file.now bytes)
    (λ text. declared_in c.args.file.now fault_text (rows_of c.args.topology.now text))
    (c.in_err-bytes.ensures.due bytes told))

pub returns-clause-due : goal.returns-clause-due
unfolding rows_in
returns-clause-due g c = λ bytes told.
    declares (λ (rows : List Row). rows) c.declared.result 16777216 c.args.file.now bytes c.in_ok-bytes.bytes.items
    c.deref.result.now fault_text (rows_of c.args.topology.now)
    (c.in_ok-bytes.ensures.due bytes told) c.deref.ensures.value (c.declared.ensures.due fault_text
    (rows_of c.args.topology.now c.deref.result.now) (λ fault. refl) c.read_certificate.ensures)

pub returns-clause-inside : goal.returns-clause-inside
returns-clause-inside g c =
    declared_keeps (All (λ (row : Row). row.port < length c.args.topology.now.ports)) c.declared.result
    c.args.file.now fault_text (rows_of c.args.topology.now c.deref.result.now)
    (c.declared.ensures.due fault_text (rows_of c.args.topology.now c.deref.result.now) (λ fault. refl)
    c.read_certificate.ensures) (rows_inside c.args.topology.now c.deref.result.now)

pub returns-in_err-bytes-clause-reads : goal.returns-in_err-bytes-clause-reads
returns-in_err-bytes-clause-reads g c =
    reads_stopped c.in_err-bytes.field-0.0 c.from_residual.result c.in_err-bytes.ensures.reads c.from_residual.ensures.1
