use Rattle.std.proofs.Common.{ℕ, List, [], Option, Ok, lit<, sym, ap, ◌∙◌, refl}
use Rattle.ats_num.specs.Failure.{◌>>=◌}
use Rattle.ats_lrq_shape.specs.Verdicts.{lrq_text_of}
use Rattle.ats_command_input.specs.Command.{LrqShape}
use Rattle.ats_command_input.specs.Input.{shape_in}
use Rattle.ats_command_input.proofs.Steps.{reads_stopped}
use Rattle.ats_command_due.specs.Due.{told_bytes, lrq_shape_answer}
use Rattle.ats_command_due.proofs.Steps.{told_is, text_settles, file_settles, reads_one}
use Rattle.ats_lrq_commands.proofs.shape_command.lrq_shape.Goals as goal

pub returns-in_err-shape-clause-due : goal.returns-in_err-shape-clause-due
unfolding lrq_shape_answer
returns-in_err-shape-clause-due g c = λ is_told.
    file_settles (g.F.Files.told c.args.files.now) c.args.file.now c.from_residual.result c.in_err-shape.field-0.0
    (shape_in c.args.file.now) (λ shape. Ok (lrq_text_of shape)) c.from_residual.ensures.1 c.in_err-shape.ensures.due
    (is_told 0 [] (lit< tt))

pub returns-clause-due : goal.returns-clause-due
unfolding lrq_shape_answer
returns-clause-due g c = λ is_told.
    let told : List ℕ → Option (List ℕ) = g.F.Files.told c.args.files.now in
    let file : List ℕ = c.args.file.now in
    text_settles c.in_ok-report.field-0.items
    (shape_in file (told_bytes told file) >>= λ shape. Ok (lrq_text_of shape))
    (ap (λ d. d >>= λ shape. Ok (lrq_text_of shape)) (c.in_ok-shape.ensures.due (told_bytes told file)
    (told_is told file (is_told 0 [] (lit< tt)))) ∙ ap Ok (sym c.in_ok-report.ensures))

pub returns-in_err-shape-clause-reads : goal.returns-in_err-shape-clause-reads
returns-in_err-shape-clause-reads g c =
    reads_one (LrqShape c.args.file.now) c.args.file.now []
    (reads_stopped c.in_err-shape.field-0.0 c.from_residual.result c.in_err-shape.ensures.reads
    c.from_residual.ensures.1) refl refl
