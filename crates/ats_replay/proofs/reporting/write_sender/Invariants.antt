use Rattle.std.proofs.Common.{◌≡◌, ◌++◌}
use Rattle.std.specs.Option.{option_copied}
use Rattle.std.specs.List.{flat_map, range_with_len}
use Rattle.ats_replay.specs.Inside.{summary_at}
use Rattle.ats_replay.specs.Report.{listener_line}
use Rattle.ats_replay.proofs.reporting.write_sender.Given as goal

-- the text has the lines of the listeners so far
abbrev pub invariant-loop-leg : goal.invariant-loop-leg
invariant-loop-leg l = l.out.items
    ≡ l.initial.out.items
    ++ flat_map (listener_line l.network (summary_at l.network l.summaries) (option_copied l.fn.sums) l.sender)
    (range_with_len 0 l.leg)
