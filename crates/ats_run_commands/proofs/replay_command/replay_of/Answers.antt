use Rattle.ats_command_input.specs.Input.{releases_in}
use Rattle.ats_command_due.specs.Replayed.{IsReplayText}
use Rattle.ats_command_due.proofs.Replays.{stop_gives_one}
use Rattle.ats_command_input.proofs.Steps.{reads_stopped}
use Rattle.ats_run_commands.proofs.replay_command.replay_of.Goals as goal

pub returns-in_err-releases-clause-due : goal.returns-in_err-releases-clause-due
returns-in_err-releases-clause-due g c = λ bytes told.
    stop_gives_one (IsReplayText c.args.order c.args.network.now) c.from_residual.result c.in_err-releases.field-0.0
    (releases_in c.args.network.now c.args.schedule.now bytes) c.from_residual.ensures.1
    (c.in_err-releases.ensures.due bytes told)

pub returns-in_err-releases-clause-reads : goal.returns-in_err-releases-clause-reads
returns-in_err-releases-clause-reads g c =
    reads_stopped c.in_err-releases.field-0.0 c.from_residual.result c.in_err-releases.ensures.reads
    c.from_residual.ensures.1
