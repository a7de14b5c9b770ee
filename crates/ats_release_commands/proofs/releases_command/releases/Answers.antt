use Rattle.std.proofs.Common.{◌≡◌, ℕ, List, [], ◌∷◌, Option, Some, Result, Ok, lit<, inl, inr, refl, sym, ap, subst}
use Rattle.std.proofs.Common.{◌∙◌}
use Rattle.std.specs.Global.{Vec}
use Rattle.ats_topology.specs.Topology.{DeclaredTopology}
use Rattle.ats_network.specs.Network.{DeclaredNetwork}
use Rattle.ats_num.specs.Failure.{◌>>=◌}
use Rattle.ats_command_input.specs.Answer.{Answer}
use Rattle.ats_command_input.specs.Command.{Releases}
use Rattle.ats_command_input.specs.Input.{network_in}
use Rattle.ats_command_input.specs.Outcome.{Gives, IsStopOf}
use Rattle.ats_command_input.specs.Station.{station_in}
use Rattle.ats_command_input.proofs.Steps.{stops_all, err_is, reads_stopped, not_failed}
use Rattle.ats_command_due.specs.Captured.{Captured, captured_in}
use Rattle.ats_command_due.specs.Due.{releases_answer, told_bytes}
use Rattle.ats_command_due.specs.Released.{released_in, released_text}
use Rattle.ats_command_due.proofs.Steps.{told_is, step_settles, result_settles, declared_is_ok, reads_both}
use Rattle.ats_command_due.proofs.Steps.{reads_first, reads_one}
use Rattle.ats_release_commands.proofs.Releasing.{released_there, unnamed_stops}
use Rattle.ats_release_commands.proofs.releases_command.releases.Goals as goal

pub returns-in_err-network-clause-due : goal.returns-in_err-network-clause-due
unfolding releases_answer released_in captured_in
returns-in_err-network-clause-due g c = λ is_told.
    let told : List ℕ → Option (List ℕ) = g.F.Files.told c.args.files.now in
    let net : List ℕ = c.args.net.now in
    step_settles c.from_residual.result c.in_err-network.field-0.0
    (captured_in net c.args.station.now c.args.file.now (told_bytes told net) (told_bytes told c.args.file.now))
    (λ (captured : Captured). Ok (released_text captured.network captured.traffic))
    (err_is c.from_residual.result c.in_err-network.field-0.0 c.from_residual.ensures.1)
    (stops_all c.in_err-network.field-0.0 (network_in net (told_bytes told net)) _
    (c.in_err-network.ensures.due (told_bytes told net) (told_is told net (is_told 0 [] (lit< tt)))))

pub returns-in_err-place-clause-due : goal.returns-in_err-place-clause-due
unfolding releases_answer released_in
returns-in_err-place-clause-due g c = λ is_told.
    let told : List ℕ → Option (List ℕ) = g.F.Files.told c.args.files.now in
    let net : List ℕ = c.args.net.now in
    let station : List ℕ = c.args.station.now in
    let file : List ℕ = c.args.file.now in
    let network : DeclaredNetwork = c.in_ok-network.network in
    let stops = subst (λ (t : DeclaredTopology). IsStopOf c.in_err-place.field-0.0 (station_in t station))
    c.topology.ensures.value c.in_err-place.ensures.due in
    let declared = c.in_ok-network.ensures.due (told_bytes told net) (told_is told net (is_told 0 [] (lit< tt))) in
    step_settles c.from_residual-in_err-place.result c.in_err-place.field-0.0
    (captured_in net station file (told_bytes told net) (told_bytes told file))
    (λ (captured : Captured). Ok (released_text captured.network captured.traffic))
    (err_is c.from_residual-in_err-place.result c.in_err-place.field-0.0 c.from_residual-in_err-place.ensures.1)
    (unnamed_stops net station file (told_bytes told net) (told_bytes told file) network c.in_err-place.field-0.0
    declared stops)

pub returns-clause-due : goal.returns-clause-due
unfolding releases_answer
returns-clause-due g c = λ is_told.
    let told : List ℕ → Option (List ℕ) = g.F.Files.told c.args.files.now in
    let net : List ℕ = c.args.net.now in
    let station : List ℕ = c.args.station.now in
    let file : List ℕ = c.args.file.now in
    let network : DeclaredNetwork = c.in_ok-network.network in
    let place : ℕ = c.in_ok-place.place in
    let declared = c.in_ok-network.ensures.due (told_bytes told net) (told_is told net (is_told 0 [] (lit< tt))) in
    let named = subst (λ (t : DeclaredTopology). station_in t station ≡ Ok place) c.topology.ensures.value
    c.in_ok-place.ensures.due in
    let still : g.F.Files.told c.network_in.new.files file ≡ Some (told_bytes told file) =
    ap (λ (t : List ℕ → Option (List ℕ)). t file) c.in_ok-network.ensures.reads.continues.holds
    ∙ told_is told file (is_told 1 [] (lit< tt)) in
    result_settles c.schedule_of.result
    (released_in net station file (told_bytes told net) (told_bytes told file))
    (subst (λ (due : Result (List ℕ) Answer). Gives (λ (text : Vec ℕ). text.items) c.schedule_of.result due)
    (sym (released_there net station file (told_bytes told net) (told_bytes told file) network place declared named))
    (c.schedule_of.ensures.due (told_bytes told file) still))

pub returns-clause-reads : goal.returns-clause-reads
returns-clause-reads g c =
    let station : List ℕ = c.args.station.now in
    let file : List ℕ = c.args.file.now in
    let place : ℕ = c.in_ok-place.place in
    let named = subst (λ (t : DeclaredTopology). station_in t station ≡ Ok place) c.topology.ensures.value
    c.in_ok-place.ensures.due in
    reads_both g.F.Files.told g.F.Files.faults g.F.Files.reads
    (Releases c.args.net.now station file) c.args.net.now file
    c.args.files.now c.network_in.new.files c.schedule_of.new.files c.in_ok-network.network c.schedule_of.result
    c.in_ok-network.ensures.reads c.schedule_of.ensures.reads
    (inr (
      refl,
      λ bytes told. declared_is_ok _ place
          (ap (λ (d : Result DeclaredNetwork Answer). d >>= λ n. station_in n.topology station)
          (c.in_ok-network.ensures.due bytes told) ∙ named),
    )) refl

pub returns-in_err-place-clause-reads : goal.returns-in_err-place-clause-reads
returns-in_err-place-clause-reads g c =
    reads_first (Releases c.args.net.now c.args.station.now c.args.file.now) c.args.net.now
    (c.args.file.now ∷ []) c.in_ok-network.network c.from_residual-in_err-place.result c.in_ok-network.ensures.reads
    (not_failed c.in_err-place.field-0.0 c.from_residual-in_err-place.result c.in_err-place.ensures.was_read
    c.from_residual-in_err-place.ensures.1) refl

pub returns-in_err-network-clause-reads : goal.returns-in_err-network-clause-reads
returns-in_err-network-clause-reads g c =
    reads_one (Releases c.args.net.now c.args.station.now c.args.file.now)
    c.args.net.now (c.args.file.now ∷ [])
    (reads_stopped c.in_err-network.field-0.0 c.from_residual.result c.in_err-network.ensures.reads
    c.from_residual.ensures.1) (inl refl) refl
