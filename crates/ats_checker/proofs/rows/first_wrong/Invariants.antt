use Rattle.std.proofs.Common.{◌≡◌, drop}
use Rattle.ats_tally.specs.Reason.{first_some}
use Rattle.ats_checker.specs.Refusal.{wrong_in}
use Rattle.ats_checker.proofs.rows.first_wrong.Given as goal

-- what is found first is among those still to come
abbrev pub invariant-loop-row : goal.invariant-loop-row
invariant-loop-row l =
    first_some (wrong_in l.tallies) l.rows ≡ first_some (wrong_in l.tallies) (drop l.row-index l.rows)
