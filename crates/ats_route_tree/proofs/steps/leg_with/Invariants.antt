use Rattle.std.proofs.Common.{◌≡◌, ◌+◌, drop}
use Rattle.ats_route_tree.specs.Steps.{leg_with}
use Rattle.ats_route_tree.proofs.steps.leg_with.Given as goal

-- as many branches as were passed begin in front of the place
abbrev pub invariant-loop-branch : goal.invariant-loop-branch
invariant-loop-branch l = record {
  passed : l.leg ≡ l.branch-index;
  left : l.leg + leg_with (drop l.branch-index l.branches) l.place ≡ leg_with l.branches l.place;
}
