use Rattle.std.proofs.Common.{◌≡◌, ◌++◌, map, take}
use Rattle.ats_run_records.specs.Brief.{begun}
use Rattle.ats_run_records.specs.Progress.{Progress, trunks_opened, copies_opened}
use Rattle.ats_run_records.proofs.tracks.tracks_of.Given as goal

abbrev pub invariant-loop-frame : goal.invariant-loop-frame
invariant-loop-frame l =
    (l.tracks.legs.items ≡ map begun (trunks_opened l.net 0 l.releases)
    ++ map begun (copies_opened l.net 0 (take l.frame l.releases)))
    × (l.tracks.frames.items
    ≡ map (λ (leg : Progress). leg.frame) (copies_opened l.net 0 (take l.frame l.releases)))
