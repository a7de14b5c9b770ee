use Rattle.std.proofs.Common.{◌≡◌, take}
use Rattle.ats_replay.specs.Totals.{totals_of}
use Rattle.ats_replay.proofs.totals.totals_of.Given as goal

-- the totals of the frames so far
abbrev pub invariant-loop-frame : goal.invariant-loop-frame
invariant-loop-frame g l = l.totals ≡ totals_of l.network (take l.frame (g.R.Ended.run l.run))
