use Rattle.std.proofs.Common.{arith}
use Rattle.ats_route_tree.proofs.Counts.{leg_end, leg_from, leg_here}
use Rattle.ats_route_tree.proofs.steps.leg_with.Goals as goal

pub returns-then-place-branch-clause-from : goal.returns-then-place-branch-clause-from
returns-then-place-branch-clause-from c =
    leg_from c.args.branches.now c.args.place c.loop-branch.leg
    (leg_here c.args.branches.now c.loop-branch.branch-index c.args.place c.loop-branch.leg
    (omega (arith, c.loop-branch-test.true)) (omega (arith, c.if-place-branch.true)) c.loop-branch.invariant.left)

pub returns-clause-from : goal.returns-clause-from
returns-clause-from c =
    leg_from c.args.branches.now c.args.place c.loop-branch.leg
    (leg_end c.args.branches.now c.loop-branch.branch-index c.args.place c.loop-branch.leg
    (omega (arith, c.loop-branch-test.false)) c.loop-branch.invariant.left)
