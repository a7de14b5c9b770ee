use Rattle.std.proofs.Common.{◌≡◌, map, take}
use Rattle.ats_run_records.specs.Brief.{begun}
use Rattle.ats_run_records.specs.Progress.{trunks_opened}
use Rattle.ats_run_records.proofs.tracks.trunks_of.Given as goal

abbrev pub invariant-loop-release : goal.invariant-loop-release
invariant-loop-release l = l.legs.items ≡ map begun (trunks_opened l.net 0 (take l.release-index l.releases))
