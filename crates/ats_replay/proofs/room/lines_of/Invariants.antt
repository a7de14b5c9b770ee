use Rattle.std.proofs.Common.{◌*◌, ◌≤◌}
use Rattle.ats_replay.proofs.room.lines_of.Given as goal

-- a leg has at most 66 lines that are counted
abbrev pub invariant-loop-leg : goal.invariant-loop-leg
invariant-loop-leg l = l.lines ≤ 66 * l.leg
