use Rattle.std.proofs.Common.{◌≡◌, length, [], Some}
use Rattle.ats_schedule.specs.Reading.{releases_from}
use Rattle.ats_trace.specs.Releases.{AreReleases, HaveFewPorts, ports_of_frames}
use Rattle.ats_schedule.proofs.reading.releases_from.Given as goal

-- the releases so far and the records left give what all records give
abbrev pub invariant-loop-releases : goal.invariant-loop-releases
invariant-loop-releases l = record {
  due : releases_from l.network l.releases.items l.records.left ≡ releases_from l.network [] l.initial.records.left;
  width : l.records.width ≡ Some 3;
  are : AreReleases l.network l.releases.items;
  few_ports : HaveFewPorts l.network l.releases.items;
  ports : l.ports ≡ ports_of_frames l.network l.releases.items;
}

abbrev pub decreases-loop-releases : goal.decreases-loop-releases
decreases-loop-releases l = length l.records.left
