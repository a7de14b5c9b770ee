use Rattle.ats_engine.proofs.Counting.{counts-next}
use Rattle.ats_engine.proofs.rooms.counts_of.Goals as goal

pub loop-release-preserved : goal.loop-release-preserved
loop-release-preserved c =
    counts-next c.args.net.now c.args.releases.now c.loop-release.release-index _ c.loop-release.counts.items
    c.count.new.counts.items c.loop-release-test.true c.loop-release.invariant c.count.ensures
