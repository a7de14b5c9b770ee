use Rattle.std.proofs.Common.{ℕ, List, [], Option, lit<, refl}
use Rattle.ats_network.specs.Network.{DeclaredNetwork}
use Rattle.ats_num.specs.Failure.{◌>>=◌}
use Rattle.ats_command_input.specs.Command.{Witness}
use Rattle.ats_command_input.specs.Input.{network_in}
use Rattle.ats_command_input.specs.Stream.{stream_in}
use Rattle.ats_command_input.proofs.Steps.{stops_all, reads_stopped, not_failed}
use Rattle.ats_command_due.specs.Due.{told_bytes}
use Rattle.ats_command_due.specs.Witnessed.{IsWitnessed, witness_judged, witnessed_in}
use Rattle.ats_command_due.proofs.Steps.{told_is, reads_first, reads_one}
use Rattle.ats_command_due.proofs.Replays.{one_settles, stop_gives_one, one_goes_on}
use Rattle.ats_record_commands.proofs.witness_command.witness.Goals as goal

pub returns-in_err-network-clause-due : goal.returns-in_err-network-clause-due
unfolding witnessed_in
returns-in_err-network-clause-due g c = λ is_told.
    let told : List ℕ → Option (List ℕ) = g.F.Files.told c.args.files.now in
    let net : List ℕ = c.args.net.now in
    let due = witnessed_in net c.args.name.now (told_bytes told net) in
    one_settles IsWitnessed c.from_residual.result due
    (stop_gives_one IsWitnessed c.from_residual.result c.in_err-network.field-0.0 due c.from_residual.ensures.1
    (stops_all c.in_err-network.field-0.0 (network_in net (told_bytes told net)) _
    (c.in_err-network.ensures.due (told_bytes told net) (told_is told net (is_told 0 [] (lit< tt))))))

pub returns-in_err-stream-clause-due : goal.returns-in_err-stream-clause-due
unfolding witnessed_in
returns-in_err-stream-clause-due g c = λ is_told.
    let told : List ℕ → Option (List ℕ) = g.F.Files.told c.args.files.now in
    let net : List ℕ = c.args.net.now in
    let name : List ℕ = c.args.name.now in
    let network : DeclaredNetwork = c.in_ok-network.network in
    one_settles IsWitnessed c.from_residual-in_err-stream.result (witnessed_in net name (told_bytes told net))
    (one_goes_on IsWitnessed c.from_residual-in_err-stream.result (network_in net (told_bytes told net)) network
    (λ n. stream_in n.streams name >>= λ stream. witness_judged n stream)
    (c.in_ok-network.ensures.due (told_bytes told net) (told_is told net (is_told 0 [] (lit< tt))))
    (stop_gives_one IsWitnessed c.from_residual-in_err-stream.result c.in_err-stream.field-0.0 _
    c.from_residual-in_err-stream.ensures.1
    (stops_all c.in_err-stream.field-0.0 (stream_in network.streams name)
    (λ stream. witness_judged network stream) c.in_err-stream.ensures.due)))

pub returns-clause-due : goal.returns-clause-due
unfolding witnessed_in
returns-clause-due g c = λ is_told.
    let told : List ℕ → Option (List ℕ) = g.F.Files.told c.args.files.now in
    let net : List ℕ = c.args.net.now in
    let name : List ℕ = c.args.name.now in
    let network : DeclaredNetwork = c.in_ok-network.network in
    let place : ℕ = c.in_ok-stream.stream in
    one_settles IsWitnessed c.delays_of.result (witnessed_in net name (told_bytes told net))
    (one_goes_on IsWitnessed c.delays_of.result (network_in net (told_bytes told net)) network
    (λ n. stream_in n.streams name >>= λ stream. witness_judged n stream)
    (c.in_ok-network.ensures.due (told_bytes told net) (told_is told net (is_told 0 [] (lit< tt))))
    (one_goes_on IsWitnessed c.delays_of.result (stream_in network.streams name) place
    (λ stream. witness_judged network stream) c.in_ok-stream.ensures.due c.delays_of.ensures.due))

pub returns-in_err-network-clause-reads : goal.returns-in_err-network-clause-reads
returns-in_err-network-clause-reads g c =
    reads_one (Witness c.args.net.now c.args.name.now) c.args.net.now []
    (reads_stopped c.in_err-network.field-0.0 c.from_residual.result c.in_err-network.ensures.reads
    c.from_residual.ensures.1) refl refl

pub returns-in_err-stream-clause-reads : goal.returns-in_err-stream-clause-reads
returns-in_err-stream-clause-reads g c =
    reads_first (Witness c.args.net.now c.args.name.now) c.args.net.now [] c.in_ok-network.network
    c.from_residual-in_err-stream.result c.in_ok-network.ensures.reads
    (not_failed c.in_err-stream.field-0.0 c.from_residual-in_err-stream.result c.in_err-stream.ensures.was_read
    c.from_residual-in_err-stream.ensures.1) refl
