use Rattle.std.proofs.Common.{take}
use Rattle.ats_replay.specs.Inside.{AreSummaries}
use Rattle.ats_replay.proofs.summary.summarize.Given as goal

-- the summaries are those of the frames so far
abbrev pub invariant-loop-frame : goal.invariant-loop-frame
invariant-loop-frame g l = AreSummaries l.network (take l.frame (g.R.Ended.run l.run)) l.summaries.items
