use Rattle.std.proofs.Common.{ℕ, List, [], Option, Ok, lit<, refl}
use Rattle.ats_command_input.specs.Command.{Settings}
use Rattle.ats_command_input.specs.Input.{network_in}
use Rattle.ats_command_input.proofs.Steps.{reads_stopped}
use Rattle.ats_command_due.specs.Due.{told_bytes}
use Rattle.ats_command_due.specs.Set.{TellsSettings}
use Rattle.ats_command_due.proofs.Steps.{told_is, reads_one}
use Rattle.ats_verdict_commands.proofs.Conforms.{stop_comes_to, comes_from}
use Rattle.ats_verdict_commands.proofs.settings_command.settings.Goals as goal

pub returns-in_err-network-clause-due : goal.returns-in_err-network-clause-due
returns-in_err-network-clause-due g c = λ is_told.
    let told : List ℕ → Option (List ℕ) = g.F.Files.told c.args.files.now in
    let net : List ℕ = c.args.net.now in
    stop_comes_to TellsSettings c.from_residual.result c.in_err-network.field-0.0 (network_in net (told_bytes told net))
    c.from_residual.ensures.1
    (c.in_err-network.ensures.due (told_bytes told net) (told_is told net (is_told 0 [] (lit< tt))))

pub returns-clause-due : goal.returns-clause-due
returns-clause-due g c = λ is_told.
    let told : List ℕ → Option (List ℕ) = g.F.Files.told c.args.files.now in
    let net : List ℕ = c.args.net.now in
    comes_from TellsSettings c.text_of.result (network_in net (told_bytes told net)) c.in_ok-network.network
    (c.in_ok-network.ensures.due (told_bytes told net) (told_is told net (is_told 0 [] (lit< tt))))
    c.text_of.ensures.due

pub returns-in_err-network-clause-reads : goal.returns-in_err-network-clause-reads
returns-in_err-network-clause-reads g c =
    reads_one (Settings c.args.net.now) c.args.net.now []
    (reads_stopped c.in_err-network.field-0.0 c.from_residual.result c.in_err-network.ensures.reads
    c.from_residual.ensures.1) refl refl
