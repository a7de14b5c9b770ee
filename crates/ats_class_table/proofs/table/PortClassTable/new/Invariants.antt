use Rattle.std.proofs.Common.{◌≡◌, replicate}
use Rattle.ats_class_table.proofs.table.PortClassTable.new.Given as goal

-- the value so many times
abbrev pub invariant-loop : goal.invariant-loop
invariant-loop g l = l.values.items ≡ replicate l.counter l.value
