use Rattle.std.proofs.Common.{take}
use Rattle.ats_buffer.specs.Occupancy.{ArePeaks}
use Rattle.ats_buffer.proofs.levels.peaks.Given as goal

-- the peaks of the rows so far
abbrev pub invariant-loop-row : goal.invariant-loop-row
invariant-loop-row l = ArePeaks l.network l.run (take l.row-index l.rows) l.peaks.items
