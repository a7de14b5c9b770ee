use Rattle.std.proofs.Common.{drop}
use Rattle.ats_tally.specs.Bounds.{AreBounds}
use Rattle.ats_tally.proofs.bounds.table_of.Given as goal

-- the table has the bounds of the last rows
abbrev pub invariant-loop-i : goal.invariant-loop-i
invariant-loop-i l = AreBounds l.ports (drop l.i l.rows) l.table
