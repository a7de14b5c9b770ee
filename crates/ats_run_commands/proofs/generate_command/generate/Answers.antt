use Rattle.std.proofs.Common.{ℕ, List, [], Option, lit<, refl}
use Rattle.ats_command_input.specs.Input.{network_in}
use Rattle.ats_command_input.proofs.Steps.{stops_all, reads_stopped}
use Rattle.ats_command_due.specs.Due.{told_bytes}
use Rattle.ats_command_due.specs.Generated.{IsGenerated, generated_in, made_for}
use Rattle.ats_command_due.proofs.Steps.{told_is, reads_one}
use Rattle.ats_command_due.proofs.Replays.{one_settles, stop_gives_one, one_goes_on}
use Rattle.ats_command_input.specs.Command.{Generate}
use Rattle.ats_run_commands.proofs.generate_command.generate.Goals as goal

pub returns-in_err-network-clause-due : goal.returns-in_err-network-clause-due
unfolding generated_in
returns-in_err-network-clause-due g c = λ is_told.
    let told : List ℕ → Option (List ℕ) = g.F.Files.told c.args.files.now in
    let net : List ℕ = c.args.net.now in
    let due = generated_in net c.args.seed c.args.count.frames (told_bytes told net) in
    one_settles (IsGenerated c.args.seed c.args.count.frames) c.from_residual.result due
    (stop_gives_one (IsGenerated c.args.seed c.args.count.frames) c.from_residual.result c.in_err-network.field-0.0 due
    c.from_residual.ensures.1
    (stops_all c.in_err-network.field-0.0 (network_in net (told_bytes told net)) _
    (c.in_err-network.ensures.due (told_bytes told net) (told_is told net (is_told 0 [] (lit< tt))))))

pub returns-clause-due : goal.returns-clause-due
unfolding generated_in
returns-clause-due g c = λ is_told.
    let told : List ℕ → Option (List ℕ) = g.F.Files.told c.args.files.now in
    let net : List ℕ = c.args.net.now in
    one_settles (IsGenerated c.args.seed c.args.count.frames) c.summary_of.result
    (generated_in net c.args.seed c.args.count.frames (told_bytes told net))
    (one_goes_on (IsGenerated c.args.seed c.args.count.frames) c.summary_of.result
    (network_in net (told_bytes told net))
    c.in_ok-network.network (made_for c.args.seed c.args.count.frames)
    (c.in_ok-network.ensures.due (told_bytes told net) (told_is told net (is_told 0 [] (lit< tt))))
    c.summary_of.ensures.due)

pub returns-in_err-network-clause-reads : goal.returns-in_err-network-clause-reads
returns-in_err-network-clause-reads g c =
    reads_one (Generate c.args.net.now c.args.seed c.args.count.frames) c.args.net.now []
    (reads_stopped c.in_err-network.field-0.0 c.from_residual.result c.in_err-network.ensures.reads
    c.from_residual.ensures.1) refl refl
