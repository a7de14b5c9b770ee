use Rattle.std.proofs.Common.{take}
use Rattle.ats_buffer.specs.Levels.{AreLevels}
use Rattle.ats_buffer.proofs.levels.levels_after.Given as goal

-- the table has the levels after the moments so far
abbrev pub invariant-loop-moment : goal.invariant-loop-moment
invariant-loop-moment l = AreLevels l.ports (take l.moment-index l.moments) l.levels
