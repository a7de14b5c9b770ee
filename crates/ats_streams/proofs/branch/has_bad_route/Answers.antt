use Rattle.std.proofs.Common.{arith}
use Rattle.ats_streams.proofs.BranchLemmas.{none_bad, none_more, one_is_bad}
use Rattle.ats_streams.proofs.branch.has_bad_route.Goals as goal

pub returns-then-is_bad_route : goal.returns-then-is_bad_route
returns-then-is_bad_route c =
    one_is_bad c.args.ports.now c.args.branches.now c.loop-leg.leg c.args.most c.is_bad_route.result
    c.loop-leg-test.true c.is_bad_route.ensures c.if-is_bad_route.true

pub loop-leg-preserved : goal.loop-leg-preserved
loop-leg-preserved c = none_more c.args.ports.now c.args.branches.now c.loop-leg.leg c.args.most c.is_bad_route.result
    c.loop-leg-test.true c.is_bad_route.ensures c.if-is_bad_route.false c.loop-leg.invariant

pub returns : goal.returns
returns c = none_bad c.args.ports.now c.args.branches.now c.loop-leg.leg c.args.most
    (omega (arith, c.loop-leg-test.false)) c.loop-leg.invariant
