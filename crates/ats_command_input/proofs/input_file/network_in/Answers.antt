use Rattle.std.proofs.Common.{Result, refl, sym, subst}
use Rattle.ats_network_file.specs.Reading.{network_of}
use Rattle.ats_network_file.specs.FaultText.{fault_text}
use Rattle.ats_network.specs.Network.{DeclaredNetwork}
use Rattle.ats_command_input.specs.Input.{bytes_in, declared_in, network_in}
use Rattle.ats_command_input.specs.Outcome.{Gives}
use Rattle.ats_command_input.specs.declared.outcome.Stop.{Stop}
use Rattle.ats_command_input.proofs.Steps.{reads_stopped, stops_all, err_is, declares}
use Rattle.ats_command_input.proofs.input_file.network_in.Goals as goal

pub returns-in_err-bytes-clause-due : goal.returns-in_err-bytes-clause-due
unfolding network_in
returns-in_err-bytes-clause-due g c = λ bytes told.
    subst (λ (r : Result DeclaredNetwork Stop).
    Gives (λ (network : DeclaredNetwork). network) r (network_in c.args.file.now bytes))
    (sym (err_is c.from_residual.result c.in_err-bytes.field-0.0 c.from_residual.ensures.1))
    (stops_all c.in_err-bytes.field-0.0 (bytes_in 16777216 c.args.file.now bytes)
    (λ text. declared_in c.args.file.now fault_text (network_of text)) (c.in_err-bytes.ensures.due bytes told))

pub returns-clause-due : goal.returns-clause-due
unfolding network_in
returns-clause-due g c = λ bytes told.
    declares (λ (network : DeclaredNetwork). network)
    c.declared.result 16777216 c.args.file.now bytes c.in_ok-bytes.bytes.items c.deref.result.now fault_text network_of
    (c.in_ok-bytes.ensures.due bytes told) c.deref.ensures.value
    (c.declared.ensures.due fault_text (network_of c.deref.result.now) (λ fault. refl) c.read_network.ensures.value)

pub returns-in_err-bytes-clause-reads : goal.returns-in_err-bytes-clause-reads
returns-in_err-bytes-clause-reads g c =
    reads_stopped c.in_err-bytes.field-0.0 c.from_residual.result c.in_err-bytes.ensures.reads c.from_residual.ensures.1
