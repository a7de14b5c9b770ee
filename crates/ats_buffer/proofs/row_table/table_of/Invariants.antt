use Rattle.std.proofs.Common.{drop}
use Rattle.ats_buffer.specs.RowTable.{HasRows}
use Rattle.ats_buffer.proofs.row_table.table_of.Given as goal

-- the table has the last rows
abbrev pub invariant-loop-i : goal.invariant-loop-i
invariant-loop-i l = HasRows l.ports (drop l.i l.rows) l.table
