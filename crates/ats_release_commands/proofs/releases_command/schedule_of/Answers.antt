use Rattle.std.proofs.Common.{ℕ, List, Result, Ok, sym, subst}
use Rattle.std.specs.Global.{Vec}
use Rattle.ats_network.specs.Network.{DeclaredNetwork}
use Rattle.ats_command_input.specs.Input.{traffic_in}
use Rattle.ats_command_input.specs.Outcome.{Gives}
use Rattle.ats_command_input.specs.declared.outcome.Stop.{Stop}
use Rattle.ats_command_input.proofs.Steps.{stops_all, err_is, reads_stopped}
use Rattle.ats_command_due.specs.Released.{released_at, released_text}
use Rattle.ats_release_commands.proofs.releases_command.schedule_of.Goals as goal

pub returns-in_err-traffic-clause-due : goal.returns-in_err-traffic-clause-due
returns-in_err-traffic-clause-due g c = λ bytes told.
    let network : DeclaredNetwork = c.args.network.now in
    let file : List ℕ = c.args.file.now in
    subst (λ (r : Result (Vec ℕ) Stop). Gives (λ (text : Vec ℕ). text.items) r
    (released_at network c.args.station file bytes))
    (sym (err_is c.from_residual.result c.in_err-traffic.field-0.0 c.from_residual.ensures.1))
    (stops_all c.in_err-traffic.field-0.0 (traffic_in network c.args.station file bytes)
    (λ traffic. Ok (released_text network traffic)) (c.in_err-traffic.ensures.due bytes told))

pub returns-in_err-traffic-clause-reads : goal.returns-in_err-traffic-clause-reads
returns-in_err-traffic-clause-reads g c =
    reads_stopped c.in_err-traffic.field-0.0 c.from_residual.result c.in_err-traffic.ensures.reads
    c.from_residual.ensures.1
