use Rattle.std.proofs.Common.{◌≡◌, drop}
use Rattle.ats_tally.specs.Reason.{first_some, overload_in}
use Rattle.ats_tally.proofs.searches.first_overload.Given as goal

-- what is found first is among the rows still to come
abbrev pub invariant-loop-row : goal.invariant-loop-row
invariant-loop-row l = first_some overload_in l.rows ≡ first_some overload_in (drop l.row-index l.rows)
