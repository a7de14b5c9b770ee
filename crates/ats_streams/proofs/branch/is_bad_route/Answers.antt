use Rattle.std.proofs.Common.{◌∙◌, arith}
use Rattle.ats_streams.proofs.BranchLemmas.{counted_all, counts_next, leg_falls}
use Rattle.ats_streams.proofs.branch.is_bad_route.Goals as goal

pub loop-at-smaller : goal.loop-at-smaller
loop-at-smaller c = leg_falls c.args.ports.now c.args.branches.now c.loop-at.at c.requires.branches
    c.loop-at.invariant.within c.loop-at-test.true

pub loop-at-preserved : goal.loop-at-preserved
loop-at-preserved c = counts_next c.args.ports.now c.args.branches.now c.args.leg c.loop-at.at c.loop-at.many
    c.requires.branches c.loop-at.invariant c.loop-at-test.true

pub returns : goal.returns
returns c = c.is_bad_count.ensures ∙ counted_all c.args.ports.now c.args.branches.now c.args.leg c.loop-at.at
    c.loop-at.many c.args.most c.loop-at.invariant (omega (arith, c.loop-at-test.false))
