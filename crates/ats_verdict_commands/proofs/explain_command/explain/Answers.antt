use Rattle.std.proofs.Common.{[], lit<, refl}
use Rattle.ats_command_input.specs.Input.{network_in}
use Rattle.ats_command_due.specs.Judged.{explain_judged}
use Rattle.ats_command_due.specs.Due.{explain_answer}
use Rattle.ats_command_due.proofs.Steps.{file_settles, file_goes_on, reads_one}
use Rattle.ats_command_input.specs.Command.{Explain}
use Rattle.ats_command_input.proofs.Steps.{reads_stopped}
use Rattle.ats_verdict_commands.proofs.explain_command.explain.Goals as goal

pub returns-in_err-network-clause-due : goal.returns-in_err-network-clause-due
unfolding explain_answer
returns-in_err-network-clause-due g c = λ is_told.
    file_settles (g.F.Files.told c.args.files.now) c.args.net.now c.from_residual.result c.in_err-network.field-0.0
    (network_in c.args.net.now) explain_judged c.from_residual.ensures.1 c.in_err-network.ensures.due
    (is_told 0 [] (lit< tt))

pub returns-clause-due : goal.returns-clause-due
unfolding explain_answer
returns-clause-due g c = λ is_told.
    file_goes_on (g.F.Files.told c.args.files.now) c.args.net.now c.explanation_of.result c.in_ok-network.network
    (network_in c.args.net.now) explain_judged c.in_ok-network.ensures.due (is_told 0 [] (lit< tt))
    c.explanation_of.ensures.due

pub returns-in_err-network-clause-reads : goal.returns-in_err-network-clause-reads
returns-in_err-network-clause-reads g c =
    reads_one (Explain c.args.net.now) c.args.net.now []
    (reads_stopped c.in_err-network.field-0.0 c.from_residual.result c.in_err-network.ensures.reads
    c.from_residual.ensures.1) refl refl
