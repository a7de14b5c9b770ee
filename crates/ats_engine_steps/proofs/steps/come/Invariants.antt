use Rattle.std.proofs.Common.{◌≡◌, ◌-◌, length}
use Rattle.ats_run_records.specs.Progress.{progress_at}
use Rattle.ats_engine_steps.specs.Seen.{course_of}
use Rattle.ats_engine_steps.specs.Steps.{groups_now}
use Rattle.ats_engine_steps.proofs.Entering.{entered_rows, rows_to}
use Rattle.ats_engine_steps.proofs.steps.come.Given as goal

abbrev pub invariant-loop-copy : goal.invariant-loop-copy
invariant-loop-copy g l =
    course_of l.state
    ≡ entered_rows (course_of l.fn.state)
    (groups_now l.net l.fn.state.groups (progress_at l.fn.state.records.legs l.row) l.now.at.0)
    (rows_to l.net l.fn.state.records.firsts l.row (progress_at l.fn.state.records.legs l.row)
    (length (progress_at l.fn.state.records.legs l.row).hops) (l.copy - 1))
    l.now.at l.verdict
