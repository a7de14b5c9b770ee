use Rattle.std.proofs.Common.{◌≡◌, ◌+◌, length, take, sum_by}
use Rattle.ats_run_records.specs.Progress.{copies_count}
use Rattle.ats_engine.proofs.opening.legs_of.Given as goal

abbrev pub invariant-loop-release : goal.invariant-loop-release
invariant-loop-release l =
    l.legs ≡ length l.releases + sum_by (copies_count l.net) (take l.release-index l.releases)
