use Rattle.std.proofs.Common.{◌≡◌, drop}
use Rattle.ats_tally.specs.Reason.{first_some, overstay}
use Rattle.ats_tally.proofs.searches.first_overstay.Given as goal

-- what is found first is among the rows still to come
abbrev pub invariant-loop-row : goal.invariant-loop-row
invariant-loop-row l =
    first_some (overstay l.network) l.rows ≡ first_some (overstay l.network) (drop l.row-index l.rows)
