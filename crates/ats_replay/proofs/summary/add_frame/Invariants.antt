use Rattle.ats_replay.proofs.Summaries.{IsCounted}
use Rattle.ats_replay.proofs.summary.add_frame.Given as goal

-- the frame has been counted for the listeners so far
abbrev pub invariant-loop-leg : goal.invariant-loop-leg
invariant-loop-leg g l = IsCounted l.network (g.R.Ended.run l.run) l.frame l.leg l.summaries.items
