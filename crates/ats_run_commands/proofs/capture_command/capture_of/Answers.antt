use Rattle.ats_command_input.specs.Input.{traffic_in}
use Rattle.ats_command_due.specs.Captured.{IsCaptureText}
use Rattle.ats_command_due.proofs.Replays.{stop_gives_one}
use Rattle.ats_command_input.proofs.Steps.{reads_stopped}
use Rattle.ats_run_commands.proofs.capture_command.capture_of.Goals as goal

pub returns-in_err-traffic-clause-due : goal.returns-in_err-traffic-clause-due
returns-in_err-traffic-clause-due g c = λ bytes told.
    stop_gives_one (IsCaptureText c.args.order c.args.network.now) c.from_residual.result c.in_err-traffic.field-0.0
    (traffic_in c.args.network.now c.args.station c.args.file.now bytes) c.from_residual.ensures.1
    (c.in_err-traffic.ensures.due bytes told)

pub returns-in_err-traffic-clause-reads : goal.returns-in_err-traffic-clause-reads
returns-in_err-traffic-clause-reads g c =
    reads_stopped c.in_err-traffic.field-0.0 c.from_residual.result c.in_err-traffic.ensures.reads
    c.from_residual.ensures.1
