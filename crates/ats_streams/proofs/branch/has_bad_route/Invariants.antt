use Rattle.std.proofs.Common.{◌≡◌, false, take}
use Rattle.std.specs.List.{list_any}
use Rattle.ats_streams.specs.Branches.{is_bad_route, routes_of}
use Rattle.ats_streams.proofs.branch.has_bad_route.Given as goal

-- no route so far is bad
abbrev pub invariant-loop-leg : goal.invariant-loop-leg
invariant-loop-leg l = list_any (is_bad_route l.most) (take l.leg (routes_of l.ports l.branches)) ≡ false
