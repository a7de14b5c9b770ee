use Rattle.ats_capture.specs.Traffic.{Traffic}
use Rattle.ats_capture.specs.declared.traffic.StationTraffic.{StationTraffic}

-- what the program keeps, as the traffic that it stands for
abbrev pub seen : StationTraffic → Traffic
seen t = record {
  releases = t.releases.items;
  records = t.records;
  unidentified = t.unidentified;
  oversize = t.oversize;
}
