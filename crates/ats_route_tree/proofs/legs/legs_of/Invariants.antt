use Rattle.ats_route_tree.specs.LegsView.{legs_view}
use Rattle.ats_route_tree.proofs.Walked.{IsWalked}
use Rattle.ats_route_tree.proofs.legs.legs_of.Given as goal

-- the legs have the routes so far, and with those left they are the legs of all
abbrev pub invariant-loop-place : goal.invariant-loop-place
invariant-loop-place l = IsWalked l.topology l.routes l.rest l.place (legs_view l.legs)
