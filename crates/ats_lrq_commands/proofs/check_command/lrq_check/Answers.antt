use Rattle.std.proofs.Common.{ℕ, List, [], ◌∷◌, Option, Some, lit<, ap, refl, inr, ◌≡◌, ◌∙◌, inl}
use Rattle.ats_io.specs.Outside.{IfTold}
use Rattle.ats_network.specs.Network.{DeclaredNetwork}
use Rattle.ats_lrq.specs.Narrow.{narrowed}
use Rattle.ats_command_input.specs.Command.{LrqCheck}
use Rattle.ats_command_input.specs.Input.{network_in}
use Rattle.ats_command_input.proofs.Steps.{reads_stopped}
use Rattle.ats_command_due.specs.Due.{told_bytes, lrq_check_answer}
use Rattle.ats_command_due.specs.Judged.{certificate_judged}
use Rattle.ats_command_due.specs.Soundness.{Promises}
use Rattle.ats_command_due.proofs.Steps.{told_is, file_settles, file_goes_on, text_then, declared_is_ok, reads_both}
use Rattle.ats_command_due.proofs.Steps.{reads_one}
use Rattle.ats_lrq_commands.specs.Sound.{IsSpacedFile}
use Rattle.ats_lrq_commands.proofs.check_command.lrq_check.Goals as goal

pub returns-in_err-network-clause-due : goal.returns-in_err-network-clause-due
unfolding lrq_check_answer
returns-in_err-network-clause-due g c = λ is_told.
    let told : List ℕ → Option (List ℕ) = g.F.Files.told c.args.files.now in
    let certificate : List ℕ = c.args.certificate.now in
    file_settles told c.args.net.now c.from_residual.result c.in_err-network.field-0.0 (network_in c.args.net.now)
    (λ network. certificate_judged (narrowed network) certificate (told_bytes told certificate))
    c.from_residual.ensures.1 c.in_err-network.ensures.due (is_told 0 [] (lit< tt))

pub returns-clause-due : goal.returns-clause-due
unfolding lrq_check_answer
returns-clause-due g c = λ is_told.
    let told : List ℕ → Option (List ℕ) = g.F.Files.told c.args.files.now in
    let certificate : List ℕ = c.args.certificate.now in
    let still : g.F.Files.told c.network_in.new.files certificate ≡ Some (told_bytes told certificate) =
    ap (λ (t : List ℕ → Option (List ℕ)). t certificate) c.in_ok-network.ensures.reads.continues.holds
    ∙ told_is told certificate (is_told 1 [] (lit< tt)) in
    file_goes_on told c.args.net.now c.verdict_of.result c.in_ok-network.network (network_in c.args.net.now)
    (λ n. certificate_judged (narrowed n) certificate (told_bytes told certificate)) c.in_ok-network.ensures.due
    (is_told 0 [] (lit< tt)) (c.verdict_of.ensures.due (told_bytes told certificate) still)

pub returns-clause-reads : goal.returns-clause-reads
returns-clause-reads g c =
    reads_both g.F.Files.told g.F.Files.faults g.F.Files.reads (LrqCheck c.args.net.now c.args.certificate.now)
    c.args.net.now c.args.certificate.now c.args.files.now c.network_in.new.files
    c.verdict_of.new.files c.in_ok-network.network
    c.verdict_of.result c.in_ok-network.ensures.reads c.verdict_of.ensures.reads
    (inr (refl, λ bytes told. declared_is_ok _ _ (c.in_ok-network.ensures.due bytes told))) refl

pub returns-clause-sound : goal.returns-clause-sound
returns-clause-sound g c =
    let told : List ℕ → Option (List ℕ) = g.F.Files.told c.args.files.now in
    let net : List ℕ = c.args.net.now in
    let certificate : List ℕ = c.args.certificate.now in
    let network : DeclaredNetwork = c.in_ok-network.network in
    text_then c.verdict_of.result
    (λ text. IfTold (g.F.Files.told c.network_in.new.files certificate)
    (λ bytes. IsSpacedFile network certificate bytes text))
    (Promises told (LrqCheck net certificate)) c.verdict_of.ensures.sound
    (λ text sound is_told.
    let still : g.F.Files.told c.network_in.new.files certificate ≡ Some (told_bytes told certificate) =
    ap (λ (t : List ℕ → Option (List ℕ)). t certificate) c.in_ok-network.ensures.reads.continues.holds
    ∙ told_is told certificate (is_told 1 [] (lit< tt)) in
    let file : IsSpacedFile network certificate (told_bytes told certificate) text =
    sound (told_bytes told certificate) still in (
      network,
      file.0,
      record {
        network_declared =
            c.in_ok-network.ensures.due (told_bytes told net) (told_is told net (is_told 0 [] (lit< tt)));
        rows_declared = file.1;
        is_sound = file.2;
      },
    ))

pub returns-in_err-network-clause-reads : goal.returns-in_err-network-clause-reads
returns-in_err-network-clause-reads g c =
    reads_one (LrqCheck c.args.net.now c.args.certificate.now) c.args.net.now (c.args.certificate.now ∷ [])
    (reads_stopped c.in_err-network.field-0.0 c.from_residual.result c.in_err-network.ensures.reads
    c.from_residual.ensures.1) (inl refl) refl
