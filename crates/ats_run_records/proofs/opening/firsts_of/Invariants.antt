use Rattle.std.proofs.Common.{◌≡◌, ◌+◌, length, take, sum_by}
use Rattle.ats_run_records.specs.Progress.{copies_count, firsts_from}
use Rattle.ats_run_records.proofs.opening.firsts_of.Given as goal

abbrev pub invariant-loop-release : goal.invariant-loop-release
invariant-loop-release l =
    (l.firsts.items ≡ firsts_from l.net (length l.releases) (take l.release-index l.releases))
    × (l.next ≡ length l.releases + sum_by (copies_count l.net) (take l.release-index l.releases))
