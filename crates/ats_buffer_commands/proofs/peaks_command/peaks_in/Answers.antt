use Rattle.std.proofs.Common.{List, subst}
use Rattle.ats_network.specs.Network.{DeclaredNetwork}
use Rattle.ats_certificate.specs.declared.row.Row.{Row}
use Rattle.ats_trace.specs.declared.journey.Release.{Release}
use Rattle.ats_command_input.specs.Input.{releases_in}
use Rattle.ats_command_input.proofs.Steps.{stops_all, reads_stopped}
use Rattle.ats_command_due.specs.Held.{IsHeldText, held}
use Rattle.ats_command_due.specs.Judged.{unless_refused}
use Rattle.ats_command_due.specs.Replayed.{GivesOne}
use Rattle.ats_command_due.proofs.Replays.{stop_gives_one, one_goes_on}
use Rattle.ats_buffer_commands.proofs.peaks_command.peaks_in.Goals as goal

pub returns-in_err-releases-clause-due : goal.returns-in_err-releases-clause-due
returns-in_err-releases-clause-due g c = λ bytes told.
    let network : DeclaredNetwork = c.args.network.now in
    let rows : List Row = c.args.certificate.now in
    stop_gives_one (IsHeldText c.args.order) c.from_residual.result c.in_err-releases.field-0.0 _
    c.from_residual.ensures.1
    (stops_all c.in_err-releases.field-0.0 (releases_in network c.args.schedule.now bytes)
    (λ releases. unless_refused network rows (held network rows releases)) (c.in_err-releases.ensures.due bytes told))

pub returns-clause-due : goal.returns-clause-due
returns-clause-due g c = λ bytes told.
    let network : DeclaredNetwork = c.args.network.now in
    let rows : List Row = c.args.certificate.now in
    one_goes_on (IsHeldText c.args.order) c.judgement_of.result (releases_in network c.args.schedule.now bytes)
    c.in_ok-releases.releases.items (λ releases. unless_refused network rows (held network rows releases))
    (c.in_ok-releases.ensures.due bytes told)
    (subst (λ (releases : List Release). GivesOne (IsHeldText c.args.order) c.judgement_of.result
    (unless_refused network rows (held network rows releases))) c.deref.ensures.value c.judgement_of.ensures.due)

pub returns-in_err-releases-clause-reads : goal.returns-in_err-releases-clause-reads
returns-in_err-releases-clause-reads g c =
    reads_stopped c.in_err-releases.field-0.0 c.from_residual.result c.in_err-releases.ensures.reads
    c.from_residual.ensures.1
