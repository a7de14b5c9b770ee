use Rattle.std.proofs.Common.{◌≡◌, ◌-◌, ◌≤◌, take}
use Rattle.ats_admission_state.proofs.routes.listed_branches.Given as goal

-- the branches so far
abbrev pub invariant-loop-leg : goal.invariant-loop-leg
invariant-loop-leg l = (1 ≤ l.leg) × (l.branches.items ≡ take (l.leg - 1) l.stream.branches)
