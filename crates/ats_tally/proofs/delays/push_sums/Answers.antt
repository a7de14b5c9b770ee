use Rattle.std.proofs.Common.{arith}
use Rattle.ats_tally.proofs.RouteSums.{sums_all, sums_more}
use Rattle.ats_tally.proofs.delays.push_sums.Goals as goal

pub loop-leg-preserved : goal.loop-leg-preserved
loop-leg-preserved c =
    sums_more c.args.bounds.now.rows c.args.stream.now c.args.sums.now.items c.loop-leg.sums.items
    c.push.new.self.items c.loop-leg.leg c.along.result
    (omega (arith, c.loop-leg-test.true, c.legs-leg-end.ensures.value)) c.loop-leg.invariant c.along.ensures
    c.in_ok-push.ensures.items

pub returns : goal.returns
returns c =
    sums_all c.args.bounds.now.rows c.args.stream.now c.args.sums.now.items c.loop-leg.sums.items c.loop-leg.leg
    (omega (arith, c.loop-leg-test.false, c.legs-leg-end.ensures.value)) c.loop-leg.invariant
