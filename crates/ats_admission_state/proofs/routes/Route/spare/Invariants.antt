use Rattle.std.proofs.Common.{◌+◌, ◌<◌, ◌≤◌, ℕ}
use Rattle.ats_admission_state.specs.Routes.{sum_along}
use Rattle.ats_admission_state.proofs.routes.Route.spare.Given as goal

-- the sum for each listener so far is below the deadline by so much
abbrev pub invariant-loop-leg : goal.invariant-loop-leg
invariant-loop-leg l = record {
  some : 0 < l.spare;
  below : (leg : ℕ) → leg < l.leg → sum_along l.bounds l.self leg + l.spare ≤ l.self.deadline + 1;
}
