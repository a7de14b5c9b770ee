use Rattle.std.proofs.Common.{◌≡◌, ◌++◌, []}
use Rattle.std.specs.Option.{option_copied}
use Rattle.std.specs.List.{flat_map, range_with_len}
use Rattle.ats_replay.specs.Inside.{summary_at}
use Rattle.ats_replay.specs.Report.{sender_lines}
use Rattle.ats_replay.proofs.reporting.report.Given as goal

-- the text has the lines of the senders so far
abbrev pub invariant-loop-sender : goal.invariant-loop-sender
invariant-loop-sender g l = l.out.items
    ≡ [] ++ flat_map (sender_lines l.network (summary_at l.network l.summaries.items) (option_copied l.fn.sums))
    (range_with_len 0 l.sender)
