use Rattle.std.proofs.Common.{arith}
use Rattle.ats_trace.specs.Stored.{no_travel}
use Rattle.ats_replay.proofs.Summaries.{all_counted, place_inside, read_counted, read_fits}
use Rattle.ats_replay.proofs.summary.add_frame.Goals as goal

pub index-requires : goal.index-requires
index-requires g c =
    omega (
      arith,
      place_inside c.args.network.now (g.R.Ended.run c.args.run.now) c.args.frame c.loop-leg.leg c.args.first
          c.loop-leg.summaries.items (c.requires.journeys c.args.frame no_travel c.requires.frame)
          (omega (arith, c.loop-leg-test.true, c.legs-leg-end.ensures)) c.requires.first c.loop-leg.invariant,
    )

pub with_frame-requires-clause-room : goal.with_frame-requires-clause-room
with_frame-requires-clause-room g c =
    read_fits c.args.network.now (g.R.Ended.run c.args.run.now) c.args.frame c.loop-leg.leg c.args.first
    c.loop-leg.summaries.items c.index.result.now (c.requires.journeys c.args.frame no_travel c.requires.frame)
    c.requires.frame c.requires.few (omega (arith, c.loop-leg-test.true, c.legs-leg-end.ensures)) c.requires.first
    c.index.ensures c.loop-leg.invariant

pub index_mut-requires : goal.index_mut-requires
index_mut-requires g c =
    omega (
      arith,
      place_inside c.args.network.now (g.R.Ended.run c.args.run.now) c.args.frame c.loop-leg.leg c.args.first
          c.loop-leg.summaries.items (c.requires.journeys c.args.frame no_travel c.requires.frame)
          (omega (arith, c.loop-leg-test.true, c.legs-leg-end.ensures)) c.requires.first c.loop-leg.invariant,
    )

pub loop-leg-preserved : goal.loop-leg-preserved
loop-leg-preserved g c =
    read_counted c.args.network.now (g.R.Ended.run c.args.run.now) c.args.frame c.loop-leg.leg c.args.first
    c.loop-leg.summaries.items c.index.result.now c.with_frame.result
    (c.requires.journeys c.args.frame no_travel c.requires.frame) c.requires.frame
    (omega (arith, c.loop-leg-test.true, c.legs-leg-end.ensures)) c.requires.first c.index.ensures
    c.with_frame.ensures c.loop-leg.invariant

pub returns : goal.returns
returns g c =
    all_counted c.args.network.now (g.R.Ended.run c.args.run.now) c.args.frame c.loop-leg.leg c.loop-leg.summaries.items
    (c.requires.journeys c.args.frame no_travel c.requires.frame) c.requires.frame
    (omega (arith, c.loop-leg-test.false, c.legs-leg-end.ensures)) c.loop-leg.invariant
