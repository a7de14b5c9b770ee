use Rattle.ats_buffer.specs.Sums.{AreSums}
use Rattle.ats_buffer.proofs.shares.sums_of.Given as goal

-- the table has what the streams so far may have
abbrev pub invariant-loop-stream : goal.invariant-loop-stream
invariant-loop-stream l = AreSums l.network l.rows.rows l.stream l.sums
