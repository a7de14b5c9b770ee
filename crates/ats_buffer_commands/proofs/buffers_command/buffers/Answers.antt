use Rattle.std.proofs.Common.{ℕ, List, [], ◌∷◌, Option, Some, lit<, ap, refl, inr, ◌≡◌, ◌∙◌, inl}
use Rattle.ats_command_input.specs.Command.{Buffers}
use Rattle.ats_command_input.specs.Input.{network_in}
use Rattle.ats_command_input.proofs.Steps.{reads_stopped}
use Rattle.ats_command_due.specs.Due.{told_bytes, buffers_answer}
use Rattle.ats_command_due.specs.Judged.{rows_judged}
use Rattle.ats_command_due.proofs.Steps.{told_is, file_settles, file_goes_on, declared_is_ok, reads_both, reads_one}
use Rattle.ats_buffer_commands.proofs.buffers_command.buffers.Goals as goal

pub returns-in_err-network-clause-due : goal.returns-in_err-network-clause-due
unfolding buffers_answer
returns-in_err-network-clause-due g c = λ is_told.
    let told : List ℕ → Option (List ℕ) = g.F.Files.told c.args.files.now in
    let certificate : List ℕ = c.args.certificate.now in
    file_settles told c.args.net.now c.from_residual.result c.in_err-network.field-0.0 (network_in c.args.net.now)
    (λ network. rows_judged network certificate (told_bytes told certificate))
    c.from_residual.ensures.1 c.in_err-network.ensures.due (is_told 0 [] (lit< tt))

pub returns-clause-due : goal.returns-clause-due
unfolding buffers_answer
returns-clause-due g c = λ is_told.
    let told : List ℕ → Option (List ℕ) = g.F.Files.told c.args.files.now in
    let certificate : List ℕ = c.args.certificate.now in
    let still : g.F.Files.told c.network_in.new.files certificate ≡ Some (told_bytes told certificate) =
    ap (λ (t : List ℕ → Option (List ℕ)). t certificate) c.in_ok-network.ensures.reads.continues.holds
    ∙ told_is told certificate (is_told 1 [] (lit< tt)) in
    file_goes_on told c.args.net.now c.buffers_in.result c.in_ok-network.network (network_in c.args.net.now)
    (λ n. rows_judged n certificate (told_bytes told certificate)) c.in_ok-network.ensures.due
    (is_told 0 [] (lit< tt)) (c.buffers_in.ensures.due (told_bytes told certificate) still)

pub returns-clause-reads : goal.returns-clause-reads
returns-clause-reads g c =
    reads_both g.F.Files.told g.F.Files.faults g.F.Files.reads (Buffers c.args.net.now c.args.certificate.now)
    c.args.net.now c.args.certificate.now c.args.files.now c.network_in.new.files
    c.buffers_in.new.files c.in_ok-network.network
    c.buffers_in.result c.in_ok-network.ensures.reads c.buffers_in.ensures.reads
    (inr (refl, λ bytes told. declared_is_ok _ _ (c.in_ok-network.ensures.due bytes told))) refl

pub returns-in_err-network-clause-reads : goal.returns-in_err-network-clause-reads
returns-in_err-network-clause-reads g c =
    reads_one (Buffers c.args.net.now c.args.certificate.now) c.args.net.now (c.args.certificate.now ∷ [])
    (reads_stopped c.in_err-network.field-0.0 c.from_residual.result c.in_err-network.ensures.reads
    c.from_residual.ensures.1) (inl refl) refl
