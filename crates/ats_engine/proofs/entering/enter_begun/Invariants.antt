use Rattle.std.proofs.Common.{◌-◌, Some}
use Rattle.ats_run_records.specs.Progress.{progress_at}
use Rattle.ats_engine_steps.specs.Steps.{due_entries}
use Rattle.ats_engine.specs.Entering.{Enters}
use Rattle.ats_engine.specs.Told.{agenda_told}
use Rattle.ats_engine.proofs.Dues.{begun_to}
use Rattle.ats_engine.proofs.entering.enter_begun.Given as goal

abbrev pub invariant-loop-copy : goal.invariant-loop-copy
invariant-loop-copy g l =
    Enters (agenda_told l.fn.agenda) (agenda_told l.agenda) (due_entries (Some l.at)
    (begun_to l.net l.records.firsts (progress_at l.records.legs l.row) l.hop (l.copy - 1)))
