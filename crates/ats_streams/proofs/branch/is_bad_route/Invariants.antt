use Rattle.ats_streams.proofs.BranchLemmas.{Counts}
use Rattle.ats_streams.proofs.branch.is_bad_route.Given as goal

-- so many ports, and those in front of the leg at which it stands, are as many as those of the route
abbrev pub invariant-loop-at : goal.invariant-loop-at
invariant-loop-at l = Counts l.ports l.branches l.leg l.at l.many

abbrev pub decreases-loop-at : goal.decreases-loop-at
decreases-loop-at l = l.at
