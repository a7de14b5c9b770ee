use Rattle.std.proofs.Common.{List, Result, refl, sym, subst}
use Rattle.std.specs.Prelude.{All}
use Rattle.ats_pcap.specs.declared.record.Record.{Record}
use Rattle.ats_capture.specs.FaultText.{fault_text}
use Rattle.ats_capture.specs.Reading.{IsLongEnough}
use Rattle.ats_capture.specs.Seen.{seen}
use Rattle.ats_capture.specs.Traffic.{traffic_of}
use Rattle.ats_capture.specs.declared.traffic.StationTraffic.{StationTraffic}
use Rattle.ats_trace.specs.Releases.{AreReleases, HaveFewPorts}
use Rattle.ats_command_input.specs.Input.{declared_in, records_in, traffic_in}
use Rattle.ats_command_input.specs.Outcome.{Gives}
use Rattle.ats_command_input.specs.declared.outcome.Stop.{Stop}
use Rattle.ats_command_input.proofs.Steps.{reads_stopped, stops_all, goes_on, err_is, passes_seen, read_keeps}
use Rattle.ats_command_input.proofs.input_file.traffic_in.Goals as goal

pub returns-in_err-records-clause-due : goal.returns-in_err-records-clause-due
unfolding traffic_in
returns-in_err-records-clause-due g c = λ bytes told.
    subst (λ (r : Result StationTraffic Stop).
    Gives seen r (traffic_in c.args.network.now c.args.station c.args.file.now bytes))
    (sym (err_is c.from_residual.result c.in_err-records.field-0.0 c.from_residual.ensures.1))
    (stops_all c.in_err-records.field-0.0 (records_in c.args.file.now bytes)
    (λ records. declared_in c.args.file.now fault_text (traffic_of c.args.network.now c.args.station records))
    (c.in_err-records.ensures.due bytes told))

pub returns-clause-due : goal.returns-clause-due
unfolding traffic_in
returns-clause-due g c = λ bytes told.
    goes_on seen c.declared.result (records_in c.args.file.now bytes) c.in_ok-records.records.items
    (λ records. declared_in c.args.file.now fault_text (traffic_of c.args.network.now c.args.station records))
    (c.in_ok-records.ensures.due bytes told)
    (subst (λ (rs : List Record). Gives seen c.declared.result
    (declared_in c.args.file.now fault_text (traffic_of c.args.network.now c.args.station rs)))
    c.deref.ensures.value
    (passes_seen seen _ c.args.file.now c.captured.result c.declared.result fault_text
    (traffic_of c.args.network.now c.args.station c.deref.result.now) c.declared.ensures.due
    c.declared.ensures.spent (λ fault. refl) c.captured.ensures.due))

pub returns-clause-releases : goal.returns-clause-releases
returns-clause-releases g c =
    read_keeps (λ (traffic : StationTraffic). AreReleases c.args.network.now traffic.releases.items) c.captured.result
    c.declared.result c.declared.ensures.same
    (c.captured.ensures.releases (subst (All IsLongEnough) (sym c.deref.ensures.value) c.in_ok-records.ensures.octets))

pub returns-clause-few_ports : goal.returns-clause-few_ports
returns-clause-few_ports g c =
    read_keeps (λ (traffic : StationTraffic). HaveFewPorts c.args.network.now traffic.releases.items) c.captured.result
    c.declared.result c.declared.ensures.same c.captured.ensures.few_ports

pub returns-in_err-records-clause-reads : goal.returns-in_err-records-clause-reads
returns-in_err-records-clause-reads g c =
    reads_stopped c.in_err-records.field-0.0 c.from_residual.result c.in_err-records.ensures.reads
    c.from_residual.ensures.1
