use Rattle.ats_streams.proofs.WalkedRoutes.{IsBehind}
use Rattle.ats_streams.proofs.route.route_of.Given as goal

-- the ports in front of the leg at which it stands, and those so far, are those of the route
abbrev pub invariant-loop-at : goal.invariant-loop-at
invariant-loop-at l = IsBehind l.ports l.branches l.leg l.at l.route

abbrev pub decreases-loop-at : goal.decreases-loop-at
decreases-loop-at l = l.at
