use Rattle.std.proofs.Common.{◌++◌, take}
use Rattle.ats_run_records.specs.Opening.{AreOpened}
use Rattle.ats_run_records.specs.Progress.{trunks_opened, copies_opened}
use Rattle.ats_run_records.proofs.opening.rows_of.Given as goal

abbrev pub invariant-loop-frame : goal.invariant-loop-frame
invariant-loop-frame l = AreOpened (trunks_opened l.net 0 (take l.frame l.releases)) l.rows

abbrev pub invariant-loop-frame-2 : goal.invariant-loop-frame-2
invariant-loop-frame-2 l =
    AreOpened (trunks_opened l.net 0 l.releases ++ copies_opened l.net 0 (take l.frame l.releases)) l.rows
