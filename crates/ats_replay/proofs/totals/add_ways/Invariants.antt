use Rattle.std.proofs.Common.{◌≡◌, ◌+◌}
use Rattle.ats_replay.specs.Totals.{totals_on}
use Rattle.ats_replay.proofs.Counts.{ways_to}
use Rattle.ats_replay.proofs.totals.add_ways.Given as goal

-- the totals of the frames in front and of this one's ways so far
abbrev pub invariant-loop-leg : goal.invariant-loop-leg
invariant-loop-leg g l = l.totals ≡ totals_on (l.frame + 1) (ways_to l.network (g.R.Ended.run l.run) l.frame l.leg)
