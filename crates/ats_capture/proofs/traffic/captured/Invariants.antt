use Rattle.std.proofs.Common.{◌≡◌, ◌≤◌, drop}
use Rattle.ats_trace.specs.Releases.{HaveFewPorts, ports_of_frames}
use Rattle.ats_capture.specs.Seen.{seen}
use Rattle.ats_capture.specs.Traffic.{traffic_from, traffic_of}
use Rattle.ats_capture.proofs.traffic.captured.Given as goal

-- what came of the records so far and the records left come to what all come to
abbrev pub invariant-loop-record : goal.invariant-loop-record
invariant-loop-record l = record {
  due : traffic_from l.network l.station l.first l.latest (seen l.traffic) (drop l.record-index l.records)
      ≡ traffic_of l.network l.station l.records;
  later : l.first ≤ l.latest;
  counted : l.traffic.records ≡ l.record-index;
  unidentified : l.traffic.unidentified ≤ l.record-index;
  oversize : l.traffic.oversize ≤ l.record-index;
  ports : l.ports ≡ ports_of_frames l.network l.traffic.releases.items;
  few_ports : HaveFewPorts l.network l.traffic.releases.items;
}
