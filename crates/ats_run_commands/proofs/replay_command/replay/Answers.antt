use Rattle.std.proofs.Common.{ℕ, List, [], ◌∷◌, Option, Some, Ok, lit<, ap, refl, inr, ◌≡◌, ◌∙◌, inl}
use Rattle.ats_network.specs.Network.{DeclaredNetwork}
use Rattle.ats_trace.specs.declared.journey.Release.{Release}
use Rattle.ats_num.specs.Failure.{◌>>=◌}
use Rattle.ats_command_input.specs.Command.{Replay}
use Rattle.ats_command_input.specs.Input.{network_in, releases_in}
use Rattle.ats_command_input.proofs.Steps.{stops_all, reads_stopped}
use Rattle.ats_command_due.specs.Due.{told_bytes}
use Rattle.ats_command_due.specs.Replayed.{IsReplayText, IsReplayed, scheduled_in}
use Rattle.ats_command_due.proofs.Steps.{told_is, declared_is_ok, reads_both, reads_one}
use Rattle.ats_command_due.proofs.Replays.{one_settles, stop_gives_one, one_goes_on, one_made}
use Rattle.ats_run_commands.proofs.replay_command.replay.Goals as goal

pub returns-in_err-network-clause-due : goal.returns-in_err-network-clause-due
unfolding scheduled_in
returns-in_err-network-clause-due g c = λ is_told.
    let told : List ℕ → Option (List ℕ) = g.F.Files.told c.args.files.now in
    let net : List ℕ = c.args.net.now in
    let schedule : List ℕ = c.args.schedule.now in
    let due = scheduled_in net schedule (told_bytes told net) (told_bytes told schedule) in
    one_settles (IsReplayed c.args.order) c.from_residual.result due
    (stop_gives_one (IsReplayed c.args.order) c.from_residual.result c.in_err-network.field-0.0 due
    c.from_residual.ensures.1
    (stops_all c.in_err-network.field-0.0 (network_in net (told_bytes told net)) _
    (c.in_err-network.ensures.due (told_bytes told net) (told_is told net (is_told 0 [] (lit< tt))))))

pub returns-clause-due : goal.returns-clause-due
unfolding scheduled_in
returns-clause-due g c = λ is_told.
    let told : List ℕ → Option (List ℕ) = g.F.Files.told c.args.files.now in
    let net : List ℕ = c.args.net.now in
    let schedule : List ℕ = c.args.schedule.now in
    let network : DeclaredNetwork = c.in_ok-network.network in
    let still : g.F.Files.told c.network_in.new.files schedule ≡ Some (told_bytes told schedule) =
    ap (λ (t : List ℕ → Option (List ℕ)). t schedule) c.in_ok-network.ensures.reads.continues.holds
    ∙ told_is told schedule (is_told 1 [] (lit< tt)) in
    one_settles (IsReplayed c.args.order) c.replay_of.result
    (scheduled_in net schedule (told_bytes told net) (told_bytes told schedule))
    (one_goes_on (IsReplayed c.args.order) c.replay_of.result (network_in net (told_bytes told net)) network
    (λ n. releases_in n schedule (told_bytes told schedule)
    >>= λ releases. Ok (record { network = n; releases = releases }))
    (c.in_ok-network.ensures.due (told_bytes told net) (told_is told net (is_told 0 [] (lit< tt))))
    (one_made (IsReplayText c.args.order network) (IsReplayed c.args.order)
    (λ (releases : List Release). record { network = network; releases = releases }) c.replay_of.result
    (releases_in network schedule (told_bytes told schedule)) (λ releases text is. is)
    (c.replay_of.ensures.due (told_bytes told schedule) still)))

pub returns-clause-reads : goal.returns-clause-reads
returns-clause-reads g c =
    reads_both g.F.Files.told g.F.Files.faults g.F.Files.reads (Replay c.args.net.now c.args.schedule.now c.args.order)
    c.args.net.now c.args.schedule.now c.args.files.now c.network_in.new.files
    c.replay_of.new.files c.in_ok-network.network
    c.replay_of.result c.in_ok-network.ensures.reads c.replay_of.ensures.reads
    (inr (refl, λ bytes told. declared_is_ok _ _ (c.in_ok-network.ensures.due bytes told))) refl

pub returns-in_err-network-clause-reads : goal.returns-in_err-network-clause-reads
returns-in_err-network-clause-reads g c =
    reads_one (Replay c.args.net.now c.args.schedule.now c.args.order) c.args.net.now (c.args.schedule.now ∷ [])
    (reads_stopped c.in_err-network.field-0.0 c.from_residual.result c.in_err-network.ensures.reads
    c.from_residual.ensures.1) (inl refl) refl
