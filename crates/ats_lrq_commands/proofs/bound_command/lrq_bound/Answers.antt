use Rattle.std.proofs.Common.{[], lit<, refl}
use Rattle.ats_lrq.specs.Narrow.{narrowed}
use Rattle.ats_command_input.specs.Command.{LrqBound}
use Rattle.ats_command_input.specs.Input.{network_in}
use Rattle.ats_command_input.proofs.Steps.{reads_stopped}
use Rattle.ats_command_due.specs.Due.{lrq_bound_answer}
use Rattle.ats_command_due.specs.Judged.{bound_judged}
use Rattle.ats_command_due.proofs.Steps.{file_settles, file_goes_on, reads_one}
use Rattle.ats_lrq_commands.proofs.bound_command.lrq_bound.Goals as goal

pub returns-in_err-network-clause-due : goal.returns-in_err-network-clause-due
unfolding lrq_bound_answer
returns-in_err-network-clause-due g c = λ is_told.
    file_settles (g.F.Files.told c.args.files.now) c.args.net.now c.from_residual.result c.in_err-network.field-0.0
    (network_in c.args.net.now) (λ network. bound_judged (narrowed network)) c.from_residual.ensures.1
    c.in_err-network.ensures.due (is_told 0 [] (lit< tt))

pub returns-clause-due : goal.returns-clause-due
unfolding lrq_bound_answer
returns-clause-due g c = λ is_told.
    file_goes_on (g.F.Files.told c.args.files.now) c.args.net.now c.certificate_of.result c.in_ok-network.network
    (network_in c.args.net.now) (λ network. bound_judged (narrowed network)) c.in_ok-network.ensures.due
    (is_told 0 [] (lit< tt)) c.certificate_of.ensures.due

pub returns-in_err-network-clause-reads : goal.returns-in_err-network-clause-reads
returns-in_err-network-clause-reads g c =
    reads_one (LrqBound c.args.net.now) c.args.net.now []
    (reads_stopped c.in_err-network.field-0.0 c.from_residual.result c.in_err-network.ensures.reads
    c.from_residual.ensures.1) refl refl
