use Rattle.std.proofs.Common.{ℕ, List, [], ◌∷◌, Option, Some, Ok, lit<, ap, refl, inr, ◌≡◌, ◌∙◌, Result, subst, inl}
use Rattle.ats_topology.specs.Topology.{DeclaredTopology}
use Rattle.ats_network.specs.Network.{DeclaredNetwork}
use Rattle.ats_certificate.specs.declared.row.Row.{Row}
use Rattle.ats_num.specs.Failure.{◌>>=◌}
use Rattle.ats_command_input.specs.Answer.{Answer}
use Rattle.ats_command_input.specs.Command.{Peaks}
use Rattle.ats_command_input.specs.Input.{network_in, rows_in}
use Rattle.ats_command_input.specs.Outcome.{IsStopOf}
use Rattle.ats_command_input.proofs.Steps.{stops_all, reads_stopped}
use Rattle.ats_command_due.specs.Due.{told_bytes}
use Rattle.ats_command_due.specs.Held.{IsHeldText, held_in, held_judged}
use Rattle.ats_command_due.proofs.Steps.{told_is, declared_is_ok, reads_one, reads_two, reads_three}
use Rattle.ats_command_due.proofs.Replays.{one_settles, stop_gives_one, one_goes_on}
use Rattle.ats_buffer_commands.proofs.peaks_command.peaks.Goals as goal

pub returns-in_err-network-clause-due : goal.returns-in_err-network-clause-due
unfolding held_in
returns-in_err-network-clause-due g c = λ is_told.
    let told : List ℕ → Option (List ℕ) = g.F.Files.told c.args.files.now in
    let net : List ℕ = c.args.net.now in
    let due = held_in net c.args.certificate.now c.args.schedule.now (told_bytes told net)
    (told_bytes told c.args.certificate.now) (told_bytes told c.args.schedule.now) in
    one_settles (IsHeldText c.args.order) c.from_residual.result due
    (stop_gives_one (IsHeldText c.args.order) c.from_residual.result c.in_err-network.field-0.0 due
    c.from_residual.ensures.1
    (stops_all c.in_err-network.field-0.0 (network_in net (told_bytes told net)) _
    (c.in_err-network.ensures.due (told_bytes told net) (told_is told net (is_told 0 [] (lit< tt))))))

pub returns-in_err-rows-clause-due : goal.returns-in_err-rows-clause-due
unfolding held_in
returns-in_err-rows-clause-due g c = λ is_told.
    let told : List ℕ → Option (List ℕ) = g.F.Files.told c.args.files.now in
    let net : List ℕ = c.args.net.now in
    let certificate : List ℕ = c.args.certificate.now in
    let schedule : List ℕ = c.args.schedule.now in
    let network : DeclaredNetwork = c.in_ok-network.network in
    let bytes : List ℕ = told_bytes told certificate in
    let still : g.F.Files.told c.network_in.new.files certificate ≡ Some bytes =
    ap (λ (t : List ℕ → Option (List ℕ)). t certificate) c.in_ok-network.ensures.reads.continues.holds
    ∙ told_is told certificate (is_told 1 [] (lit< tt)) in
    let stops = subst (λ (t : DeclaredTopology). IsStopOf c.in_err-rows.field-0.0 (rows_in t certificate bytes))
    c.topology.ensures.value (c.in_err-rows.ensures.due bytes still) in
    one_settles (IsHeldText c.args.order) c.from_residual-in_err-rows.result
    (held_in net certificate schedule (told_bytes told net) bytes (told_bytes told schedule))
    (one_goes_on (IsHeldText c.args.order) c.from_residual-in_err-rows.result (network_in net (told_bytes told net))
    network (λ n. rows_in n.topology certificate bytes
    >>= λ rows. held_judged n rows schedule (told_bytes told schedule))
    (c.in_ok-network.ensures.due (told_bytes told net) (told_is told net (is_told 0 [] (lit< tt))))
    (stop_gives_one (IsHeldText c.args.order) c.from_residual-in_err-rows.result c.in_err-rows.field-0.0 _
    c.from_residual-in_err-rows.ensures.1
    (stops_all c.in_err-rows.field-0.0 (rows_in network.topology certificate bytes)
    (λ rows. held_judged network rows schedule (told_bytes told schedule)) stops)))

pub returns-clause-due : goal.returns-clause-due
unfolding held_in
returns-clause-due g c = λ is_told.
    let told : List ℕ → Option (List ℕ) = g.F.Files.told c.args.files.now in
    let net : List ℕ = c.args.net.now in
    let certificate : List ℕ = c.args.certificate.now in
    let schedule : List ℕ = c.args.schedule.now in
    let network : DeclaredNetwork = c.in_ok-network.network in
    let rows : List Row = c.in_ok-rows.rows in
    let bytes : List ℕ = told_bytes told certificate in
    let still : g.F.Files.told c.network_in.new.files certificate ≡ Some bytes =
    ap (λ (t : List ℕ → Option (List ℕ)). t certificate) c.in_ok-network.ensures.reads.continues.holds
    ∙ told_is told certificate (is_told 1 [] (lit< tt)) in
    let declared = subst (λ (t : DeclaredTopology). rows_in t certificate bytes ≡ Ok rows) c.topology.ensures.value
    (c.in_ok-rows.ensures.due bytes still) in
    let later : g.F.Files.told c.certificate_in.new.files schedule ≡ Some (told_bytes told schedule) =
    ap (λ (t : List ℕ → Option (List ℕ)). t schedule)
    (c.in_ok-rows.ensures.reads.continues.holds ∙ c.in_ok-network.ensures.reads.continues.holds)
    ∙ told_is told schedule (is_told 2 [] (lit< tt)) in
    one_settles (IsHeldText c.args.order) c.peaks_in.result
    (held_in net certificate schedule (told_bytes told net) bytes (told_bytes told schedule))
    (one_goes_on (IsHeldText c.args.order) c.peaks_in.result (network_in net (told_bytes told net)) network
    (λ n. rows_in n.topology certificate bytes >>= λ r. held_judged n r schedule (told_bytes told schedule))
    (c.in_ok-network.ensures.due (told_bytes told net) (told_is told net (is_told 0 [] (lit< tt))))
    (one_goes_on (IsHeldText c.args.order) c.peaks_in.result (rows_in network.topology certificate bytes) rows
    (λ r. held_judged network r schedule (told_bytes told schedule)) declared
    (c.peaks_in.ensures.due (told_bytes told schedule) later)))

pub returns-clause-reads : goal.returns-clause-reads
returns-clause-reads g c =
    let certificate : List ℕ = c.args.certificate.now in
    let rows : List Row = c.in_ok-rows.rows in
    reads_three g.F.Files.told g.F.Files.faults g.F.Files.reads
    (Peaks c.args.net.now certificate c.args.schedule.now c.args.order) c.args.net.now certificate
    c.args.schedule.now c.args.files.now c.network_in.new.files c.certificate_in.new.files c.peaks_in.new.files
    c.in_ok-network.network rows c.peaks_in.result c.in_ok-network.ensures.reads c.in_ok-rows.ensures.reads
    c.peaks_in.ensures.reads
    (inr (inr (
      refl,
      λ net_bytes net_told bytes told. declared_is_ok _ rows
          (ap (λ (d : Result DeclaredNetwork Answer). d >>= λ n. rows_in n.topology certificate bytes)
          (c.in_ok-network.ensures.due net_bytes net_told)
          ∙ subst (λ (t : DeclaredTopology). rows_in t certificate bytes ≡ Ok rows) c.topology.ensures.value
          (c.in_ok-rows.ensures.due bytes
          (ap (λ (t : List ℕ → Option (List ℕ)). t certificate) c.in_ok-network.ensures.reads.continues.holds
          ∙ told))),
    ))) refl

pub returns-in_err-rows-clause-reads : goal.returns-in_err-rows-clause-reads
returns-in_err-rows-clause-reads g c =
    reads_two g.F.Files.told g.F.Files.faults g.F.Files.reads
    (Peaks c.args.net.now c.args.certificate.now c.args.schedule.now c.args.order) c.args.net.now
    c.args.certificate.now (c.args.schedule.now ∷ []) c.args.files.now c.network_in.new.files
    c.certificate_in.new.files c.in_ok-network.network c.from_residual-in_err-rows.result
    c.in_ok-network.ensures.reads
    (reads_stopped c.in_err-rows.field-0.0 c.from_residual-in_err-rows.result c.in_err-rows.ensures.reads
    c.from_residual-in_err-rows.ensures.1)
    (inr (inl (refl, λ bytes told. declared_is_ok _ _ (c.in_ok-network.ensures.due bytes told)))) refl

pub returns-in_err-network-clause-reads : goal.returns-in_err-network-clause-reads
returns-in_err-network-clause-reads g c =
    reads_one (Peaks c.args.net.now c.args.certificate.now c.args.schedule.now c.args.order)
    c.args.net.now (c.args.certificate.now ∷ c.args.schedule.now ∷ [])
    (reads_stopped c.in_err-network.field-0.0 c.from_residual.result c.in_err-network.ensures.reads
    c.from_residual.ensures.1) (inl refl) refl
