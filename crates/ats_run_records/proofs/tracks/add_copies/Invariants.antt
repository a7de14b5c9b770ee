use Rattle.std.proofs.Common.{◌-◌, map}
use Rattle.std.specs.List.{range_with_len}
use Rattle.ats_run_records.specs.Brief.{AreBegun}
use Rattle.ats_run_records.specs.Progress.{leg_opened}
use Rattle.ats_run_records.proofs.tracks.add_copies.Given as goal

abbrev pub invariant-loop-leg : goal.invariant-loop-leg
invariant-loop-leg l =
    AreBegun (map (leg_opened l.net l.frame l.release) (range_with_len 1 (l.leg - 1))) l.fn.tracks l.tracks
