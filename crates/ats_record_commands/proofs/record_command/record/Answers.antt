use Rattle.std.proofs.Common.{ℕ, List, [], ◌∷◌, Option, Some, Ok, lit<, ap, refl, inr, ◌≡◌, ◌∙◌, Result, subst, inl}
use Rattle.ats_topology.specs.Topology.{DeclaredTopology}
use Rattle.ats_network.specs.Network.{DeclaredNetwork}
use Rattle.ats_trace.specs.declared.journey.Release.{Release}
use Rattle.ats_num.specs.Failure.{◌>>=◌}
use Rattle.ats_command_input.specs.Answer.{Answer}
use Rattle.ats_command_input.specs.Command.{Record}
use Rattle.ats_command_input.specs.Input.{network_in, releases_in}
use Rattle.ats_command_input.specs.Outcome.{IsStopOf}
use Rattle.ats_command_input.specs.Port.{port_in}
use Rattle.ats_command_input.proofs.Steps.{stops_all, reads_stopped, not_failed}
use Rattle.ats_command_due.specs.Due.{told_bytes}
use Rattle.ats_command_due.specs.Recorded.{IsRecordedFile, IsRecorded, recorded_in}
use Rattle.ats_command_due.proofs.Steps.{told_is, declared_is_ok, reads_both, reads_first, reads_one}
use Rattle.ats_command_due.proofs.Replays.{one_settles, stop_gives_one, one_goes_on, one_made}
use Rattle.ats_record_commands.proofs.record_command.record.Goals as goal

pub returns-in_err-network-clause-due : goal.returns-in_err-network-clause-due
unfolding recorded_in
returns-in_err-network-clause-due g c = λ is_told.
    let told : List ℕ → Option (List ℕ) = g.F.Files.told c.args.files.now in
    let net : List ℕ = c.args.net.now in
    let due = recorded_in net c.args.schedule.now c.args.port.now (told_bytes told net)
    (told_bytes told c.args.schedule.now) in
    one_settles (IsRecorded c.args.order) c.from_residual.result due
    (stop_gives_one (IsRecorded c.args.order) c.from_residual.result c.in_err-network.field-0.0 due
    c.from_residual.ensures.1
    (stops_all c.in_err-network.field-0.0 (network_in net (told_bytes told net)) _
    (c.in_err-network.ensures.due (told_bytes told net) (told_is told net (is_told 0 [] (lit< tt))))))

pub returns-in_err-place-clause-due : goal.returns-in_err-place-clause-due
unfolding recorded_in
returns-in_err-place-clause-due g c = λ is_told.
    let told : List ℕ → Option (List ℕ) = g.F.Files.told c.args.files.now in
    let net : List ℕ = c.args.net.now in
    let port : List ℕ = c.args.port.now in
    let schedule : List ℕ = c.args.schedule.now in
    let network : DeclaredNetwork = c.in_ok-network.network in
    let stops = subst (λ (t : DeclaredTopology). IsStopOf c.in_err-place.field-0.0 (port_in t port))
    c.topology.ensures.value c.in_err-place.ensures.due in
    one_settles (IsRecorded c.args.order) c.from_residual-in_err-place.result
    (recorded_in net schedule port (told_bytes told net) (told_bytes told schedule))
    (one_goes_on (IsRecorded c.args.order) c.from_residual-in_err-place.result (network_in net (told_bytes told net))
    network (λ n. port_in n.topology port >>= λ place. releases_in n schedule (told_bytes told schedule)
    >>= λ releases. Ok (record { network = n; port = place; releases = releases }))
    (c.in_ok-network.ensures.due (told_bytes told net) (told_is told net (is_told 0 [] (lit< tt))))
    (stop_gives_one (IsRecorded c.args.order) c.from_residual-in_err-place.result c.in_err-place.field-0.0 _
    c.from_residual-in_err-place.ensures.1
    (stops_all c.in_err-place.field-0.0 (port_in network.topology port)
    (λ place. releases_in network schedule (told_bytes told schedule)
    >>= λ releases. Ok (record { network = network; port = place; releases = releases })) stops)))

pub returns-clause-due : goal.returns-clause-due
unfolding recorded_in
returns-clause-due g c = λ is_told.
    let told : List ℕ → Option (List ℕ) = g.F.Files.told c.args.files.now in
    let net : List ℕ = c.args.net.now in
    let port : List ℕ = c.args.port.now in
    let schedule : List ℕ = c.args.schedule.now in
    let network : DeclaredNetwork = c.in_ok-network.network in
    let place : ℕ = c.in_ok-place.place in
    let named = subst (λ (t : DeclaredTopology). port_in t port ≡ Ok place) c.topology.ensures.value
    c.in_ok-place.ensures.due in
    let still : g.F.Files.told c.network_in.new.files schedule ≡ Some (told_bytes told schedule) =
    ap (λ (t : List ℕ → Option (List ℕ)). t schedule) c.in_ok-network.ensures.reads.continues.holds
    ∙ told_is told schedule (is_told 1 [] (lit< tt)) in
    one_settles (IsRecorded c.args.order) c.record_of.result
    (recorded_in net schedule port (told_bytes told net) (told_bytes told schedule))
    (one_goes_on (IsRecorded c.args.order) c.record_of.result (network_in net (told_bytes told net)) network
    (λ n. port_in n.topology port >>= λ p. releases_in n schedule (told_bytes told schedule)
    >>= λ releases. Ok (record { network = n; port = p; releases = releases }))
    (c.in_ok-network.ensures.due (told_bytes told net) (told_is told net (is_told 0 [] (lit< tt))))
    (one_goes_on (IsRecorded c.args.order) c.record_of.result (port_in network.topology port) place
    (λ p. releases_in network schedule (told_bytes told schedule)
    >>= λ releases. Ok (record { network = network; port = p; releases = releases })) named
    (one_made (IsRecordedFile c.args.order network place) (IsRecorded c.args.order)
    (λ (releases : List Release). record { network = network; port = place; releases = releases }) c.record_of.result
    (releases_in network schedule (told_bytes told schedule)) (λ releases file is. is)
    (c.record_of.ensures.due (told_bytes told schedule) still))))

pub returns-clause-reads : goal.returns-clause-reads
returns-clause-reads g c =
    let port : List ℕ = c.args.port.now in
    let schedule : List ℕ = c.args.schedule.now in
    let place : ℕ = c.in_ok-place.place in
    let named = subst (λ (t : DeclaredTopology). port_in t port ≡ Ok place) c.topology.ensures.value
    c.in_ok-place.ensures.due in
    reads_both g.F.Files.told g.F.Files.faults g.F.Files.reads
    (Record c.args.net.now schedule c.args.order port) c.args.net.now schedule
    c.args.files.now c.network_in.new.files c.record_of.new.files c.in_ok-network.network c.record_of.result
    c.in_ok-network.ensures.reads c.record_of.ensures.reads
    (inr (
      refl,
      λ bytes told. declared_is_ok _ place
          (ap (λ (d : Result DeclaredNetwork Answer). d >>= λ n. port_in n.topology port)
          (c.in_ok-network.ensures.due bytes told) ∙ named),
    )) refl

pub returns-in_err-place-clause-reads : goal.returns-in_err-place-clause-reads
returns-in_err-place-clause-reads g c =
    reads_first (Record c.args.net.now c.args.schedule.now c.args.order c.args.port.now) c.args.net.now
    (c.args.schedule.now ∷ []) c.in_ok-network.network c.from_residual-in_err-place.result
    c.in_ok-network.ensures.reads
    (not_failed c.in_err-place.field-0.0 c.from_residual-in_err-place.result c.in_err-place.ensures.was_read
    c.from_residual-in_err-place.ensures.1) refl

pub returns-in_err-network-clause-reads : goal.returns-in_err-network-clause-reads
returns-in_err-network-clause-reads g c =
    reads_one (Record c.args.net.now c.args.schedule.now c.args.order c.args.port.now)
    c.args.net.now (c.args.schedule.now ∷ [])
    (reads_stopped c.in_err-network.field-0.0 c.from_residual.result c.in_err-network.ensures.reads
    c.from_residual.ensures.1) (inl refl) refl
