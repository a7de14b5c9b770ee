use Rattle.std.proofs.Common.{◌-◌, length}
use Rattle.ats_explain.proofs.Numbered.{IsAhead}
use Rattle.ats_explain.proofs.margin.listener_of.Given as goal

-- so many listeners are left from this stream on
abbrev pub invariant-loop-left : goal.invariant-loop-left
invariant-loop-left l = IsAhead l.network l.number l.stream l.left

abbrev pub decreases-loop-left : goal.decreases-loop-left
decreases-loop-left l = length l.network.streams - l.stream
