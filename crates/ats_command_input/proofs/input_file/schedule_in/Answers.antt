use Rattle.std.proofs.Common.{Result, refl, sym, subst}
use Rattle.std.specs.Global.{Vec}
use Rattle.ats_trace.specs.Releases.{AreReleases, HaveFewPorts}
use Rattle.ats_trace.specs.declared.journey.Release.{Release}
use Rattle.ats_schedule.specs.Reading.{releases_of}
use Rattle.ats_schedule.specs.FaultText.{fault_text}
use Rattle.ats_command_input.specs.Input.{bytes_in, declared_in, releases_in}
use Rattle.ats_command_input.specs.Outcome.{Gives}
use Rattle.ats_command_input.specs.declared.outcome.Stop.{Stop}
use Rattle.ats_command_input.proofs.Steps.{reads_stopped, stops_all, err_is, declares, passes_seen, read_keeps}
use Rattle.ats_command_input.proofs.input_file.schedule_in.Goals as goal

pub returns-in_err-bytes-clause-due : goal.returns-in_err-bytes-clause-due
unfolding releases_in
returns-in_err-bytes-clause-due g c = λ bytes told.
    subst (λ (r : Result (Vec Release) Stop).
    Gives (λ (releases : Vec Release). releases.items) r (releases_in c.args.network.now c.args.file.now bytes))
    (sym (err_is c.from_residual.result c.in_err-bytes.field-0.0 c.from_residual.ensures.1))
    (stops_all c.in_err-bytes.field-0.0 (bytes_in 33554432 c.args.file.now bytes)
    (λ text. declared_in c.args.file.now fault_text (releases_of c.args.network.now text))
    (c.in_err-bytes.ensures.due bytes told))

pub returns-clause-due : goal.returns-clause-due
unfolding releases_in
returns-clause-due g c = λ bytes told.
    declares (λ (releases : Vec Release). releases.items) c.declared.result 33554432 c.args.file.now bytes
    c.in_ok-bytes.bytes.items c.deref.result.now fault_text (releases_of c.args.network.now)
    (c.in_ok-bytes.ensures.due bytes told) c.deref.ensures.value
    (passes_seen (λ (releases : Vec Release). releases.items) _ c.args.file.now c.read_schedule.result
    c.declared.result fault_text (releases_of c.args.network.now c.deref.result.now) c.declared.ensures.due
    c.declared.ensures.spent (λ fault. refl) c.read_schedule.ensures.due)

pub returns-clause-releases : goal.returns-clause-releases
returns-clause-releases g c =
    read_keeps (λ (releases : Vec Release). AreReleases c.args.network.now releases.items) c.read_schedule.result
    c.declared.result c.declared.ensures.same c.read_schedule.ensures.releases

pub returns-clause-few_ports : goal.returns-clause-few_ports
returns-clause-few_ports g c =
    read_keeps (λ (releases : Vec Release). HaveFewPorts c.args.network.now releases.items) c.read_schedule.result
    c.declared.result c.declared.ensures.same c.read_schedule.ensures.few_ports

pub returns-in_err-bytes-clause-reads : goal.returns-in_err-bytes-clause-reads
returns-in_err-bytes-clause-reads g c =
    reads_stopped c.in_err-bytes.field-0.0 c.from_residual.result c.in_err-bytes.ensures.reads c.from_residual.ensures.1
