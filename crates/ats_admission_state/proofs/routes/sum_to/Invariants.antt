use Rattle.ats_admission_state.specs.Routes.{bound_of}
use Rattle.ats_tally.proofs.Along.{IsSummed}
use Rattle.ats_admission_state.proofs.routes.sum_to.Given as goal

-- the sum of the bounds at the places of the route but those in front of the leg at which it stands
abbrev pub invariant-loop-at : goal.invariant-loop-at
invariant-loop-at l = IsSummed (bound_of l.bounds) l.places l.branches l.leg l.at l.sum

abbrev pub decreases-loop-at : goal.decreases-loop-at
decreases-loop-at l = l.at
