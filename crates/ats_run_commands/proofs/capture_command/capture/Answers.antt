use Rattle.std.proofs.Common.{ℕ, List, [], ◌∷◌, Option, Some, Ok, lit<, ap, refl, inr, ◌≡◌, ◌∙◌, Result, subst, inl}
use Rattle.ats_topology.specs.Topology.{DeclaredTopology}
use Rattle.ats_network.specs.Network.{DeclaredNetwork}
use Rattle.ats_capture.specs.Traffic.{Traffic}
use Rattle.ats_num.specs.Failure.{◌>>=◌}
use Rattle.ats_command_input.specs.Answer.{Answer}
use Rattle.ats_command_input.specs.Command.{Capture}
use Rattle.ats_command_input.specs.Input.{network_in, traffic_in}
use Rattle.ats_command_input.specs.Outcome.{IsStopOf}
use Rattle.ats_command_input.specs.Station.{station_in}
use Rattle.ats_command_input.proofs.Steps.{stops_all, reads_stopped, not_failed}
use Rattle.ats_command_due.specs.Due.{told_bytes}
use Rattle.ats_command_due.specs.Captured.{IsCaptureText, IsCaptured, captured_in}
use Rattle.ats_command_due.proofs.Steps.{told_is, declared_is_ok, reads_both, reads_first, reads_one}
use Rattle.ats_command_due.proofs.Replays.{one_settles, stop_gives_one, one_goes_on, one_made}
use Rattle.ats_run_commands.proofs.capture_command.capture.Goals as goal

pub returns-in_err-network-clause-due : goal.returns-in_err-network-clause-due
unfolding captured_in
returns-in_err-network-clause-due g c = λ is_told.
    let told : List ℕ → Option (List ℕ) = g.F.Files.told c.args.files.now in
    let net : List ℕ = c.args.net.now in
    let due = captured_in net c.args.station.now c.args.file.now (told_bytes told net)
    (told_bytes told c.args.file.now) in
    one_settles (IsCaptured c.args.order) c.from_residual.result due
    (stop_gives_one (IsCaptured c.args.order) c.from_residual.result c.in_err-network.field-0.0 due
    c.from_residual.ensures.1
    (stops_all c.in_err-network.field-0.0 (network_in net (told_bytes told net)) _
    (c.in_err-network.ensures.due (told_bytes told net) (told_is told net (is_told 0 [] (lit< tt))))))

pub returns-in_err-place-clause-due : goal.returns-in_err-place-clause-due
unfolding captured_in
returns-in_err-place-clause-due g c = λ is_told.
    let told : List ℕ → Option (List ℕ) = g.F.Files.told c.args.files.now in
    let net : List ℕ = c.args.net.now in
    let station : List ℕ = c.args.station.now in
    let file : List ℕ = c.args.file.now in
    let network : DeclaredNetwork = c.in_ok-network.network in
    let stops = subst (λ (t : DeclaredTopology). IsStopOf c.in_err-place.field-0.0 (station_in t station))
    c.topology.ensures.value c.in_err-place.ensures.due in
    one_settles (IsCaptured c.args.order) c.from_residual-in_err-place.result
    (captured_in net station file (told_bytes told net) (told_bytes told file))
    (one_goes_on (IsCaptured c.args.order) c.from_residual-in_err-place.result (network_in net (told_bytes told net))
    network (λ n. station_in n.topology station >>= λ place. traffic_in n place file (told_bytes told file)
    >>= λ traffic. Ok (record { network = n; traffic = traffic }))
    (c.in_ok-network.ensures.due (told_bytes told net) (told_is told net (is_told 0 [] (lit< tt))))
    (stop_gives_one (IsCaptured c.args.order) c.from_residual-in_err-place.result c.in_err-place.field-0.0 _
    c.from_residual-in_err-place.ensures.1
    (stops_all c.in_err-place.field-0.0 (station_in network.topology station)
    (λ place. traffic_in network place file (told_bytes told file)
    >>= λ traffic. Ok (record { network = network; traffic = traffic })) stops)))

pub returns-clause-due : goal.returns-clause-due
unfolding captured_in
returns-clause-due g c = λ is_told.
    let told : List ℕ → Option (List ℕ) = g.F.Files.told c.args.files.now in
    let net : List ℕ = c.args.net.now in
    let station : List ℕ = c.args.station.now in
    let file : List ℕ = c.args.file.now in
    let network : DeclaredNetwork = c.in_ok-network.network in
    let place : ℕ = c.in_ok-place.place in
    let named = subst (λ (t : DeclaredTopology). station_in t station ≡ Ok place) c.topology.ensures.value
    c.in_ok-place.ensures.due in
    let still : g.F.Files.told c.network_in.new.files file ≡ Some (told_bytes told file) =
    ap (λ (t : List ℕ → Option (List ℕ)). t file) c.in_ok-network.ensures.reads.continues.holds
    ∙ told_is told file (is_told 1 [] (lit< tt)) in
    one_settles (IsCaptured c.args.order) c.capture_of.result
    (captured_in net station file (told_bytes told net) (told_bytes told file))
    (one_goes_on (IsCaptured c.args.order) c.capture_of.result (network_in net (told_bytes told net)) network
    (λ n. station_in n.topology station >>= λ p. traffic_in n p file (told_bytes told file)
    >>= λ traffic. Ok (record { network = n; traffic = traffic }))
    (c.in_ok-network.ensures.due (told_bytes told net) (told_is told net (is_told 0 [] (lit< tt))))
    (one_goes_on (IsCaptured c.args.order) c.capture_of.result (station_in network.topology station) place
    (λ p. traffic_in network p file (told_bytes told file)
    >>= λ traffic. Ok (record { network = network; traffic = traffic })) named
    (one_made (IsCaptureText c.args.order network) (IsCaptured c.args.order)
    (λ (traffic : Traffic). record { network = network; traffic = traffic }) c.capture_of.result
    (traffic_in network place file (told_bytes told file)) (λ traffic text is. is)
    (c.capture_of.ensures.due (told_bytes told file) still))))

pub returns-clause-reads : goal.returns-clause-reads
returns-clause-reads g c =
    let station : List ℕ = c.args.station.now in
    let file : List ℕ = c.args.file.now in
    let place : ℕ = c.in_ok-place.place in
    let named = subst (λ (t : DeclaredTopology). station_in t station ≡ Ok place) c.topology.ensures.value
    c.in_ok-place.ensures.due in
    reads_both g.F.Files.told g.F.Files.faults g.F.Files.reads
    (Capture c.args.net.now station file c.args.order) c.args.net.now file
    c.args.files.now c.network_in.new.files c.capture_of.new.files c.in_ok-network.network c.capture_of.result
    c.in_ok-network.ensures.reads c.capture_of.ensures.reads
    (inr (
      refl,
      λ bytes told. declared_is_ok _ place
          (ap (λ (d : Result DeclaredNetwork Answer). d >>= λ n. station_in n.topology station)
          (c.in_ok-network.ensures.due bytes told) ∙ named),
    )) refl

pub returns-in_err-place-clause-reads : goal.returns-in_err-place-clause-reads
returns-in_err-place-clause-reads g c =
    reads_first (Capture c.args.net.now c.args.station.now c.args.file.now c.args.order) c.args.net.now
    (c.args.file.now ∷ []) c.in_ok-network.network c.from_residual-in_err-place.result c.in_ok-network.ensures.reads
    (not_failed c.in_err-place.field-0.0 c.from_residual-in_err-place.result c.in_err-place.ensures.was_read
    c.from_residual-in_err-place.ensures.1) refl

pub returns-in_err-network-clause-reads : goal.returns-in_err-network-clause-reads
returns-in_err-network-clause-reads g c =
    reads_one (Capture c.args.net.now c.args.station.now c.args.file.now c.args.order)
    c.args.net.now (c.args.file.now ∷ [])
    (reads_stopped c.in_err-network.field-0.0 c.from_residual.result c.in_err-network.ensures.reads
    c.from_residual.ensures.1) (inl refl) refl
