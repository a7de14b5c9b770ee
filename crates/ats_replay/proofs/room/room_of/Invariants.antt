use Rattle.std.proofs.Common.{◌*◌, ◌≤◌, ◌^◌}
use Rattle.ats_replay.proofs.room.room_of.Given as goal

abbrev pub invariant-loop-frame : goal.invariant-loop-frame
invariant-loop-frame l = l.lines ≤ 66 * 2 ^ 32 * l.frame
