use Rattle.std.proofs.Common.{arith}
use Rattle.ats_trace.specs.Stored.{no_travel}
use Rattle.ats_replay.proofs.Counts.{ways_all, ways_fit, ways_more}
use Rattle.ats_replay.proofs.totals.add_ways.Goals as goal

pub with_way-requires-clause-room : goal.with_way-requires-clause-room
with_way-requires-clause-room g c =
    ways_fit c.args.network.now (g.R.Ended.run c.args.run.now) c.args.frame c.loop-leg.leg c.loop-leg.totals
    c.topology-rules.ensures.rules
    c.requires.journeys c.requires.frame c.requires.few (omega (arith, c.loop-leg-test.true, c.legs-leg-end.ensures))
    c.loop-leg.invariant

pub loop-leg-preserved : goal.loop-leg-preserved
loop-leg-preserved g c =
    ways_more c.args.network.now (g.R.Ended.run c.args.run.now) c.args.frame c.loop-leg.leg c.loop-leg.totals
    c.with_way.result c.loop-leg.invariant c.with_way.ensures

pub returns : goal.returns
returns g c =
    ways_all c.args.network.now (g.R.Ended.run c.args.run.now) c.args.frame c.loop-leg.leg c.loop-leg.totals
    (c.requires.journeys c.args.frame no_travel c.requires.frame) c.requires.frame
    (omega (arith, c.loop-leg-test.false, c.legs-leg-end.ensures, c.loop-leg.auto.leg-end)) c.loop-leg.invariant
