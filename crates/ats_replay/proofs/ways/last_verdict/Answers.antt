use Rattle.std.proofs.Common.{◌∙◌, inl, inr, sym, arith}
use Rattle.ats_trace.specs.Stored.{travel_at}
use Rattle.ats_replay.proofs.Legs.{leg_listed}
use Rattle.ats_replay.proofs.LastRecords.{IsParent, last_here, parent_found, verdict_alike}
use Rattle.ats_replay.proofs.ways.last_verdict.Given.{Over}
use Rattle.ats_replay.proofs.ways.last_verdict.Goals as goal

pub parent_of-leg-requires-clause-leg : goal.parent_of-leg-requires-clause-leg
parent_of-leg-requires-clause-leg g c =
    rw c.release_of.ensures (
      omega (arith, c.loop-leg-test.true),
      leg_listed c.args.network.now (travel_at (g.R.Ended.run c.args.run.now) c.args.frame) c.loop-leg.leg
          c.requires.journey c.loop-leg.invariant.0,
    )

-- the leg of which the next one is asked
parent : (g : Over) (c : goal.After-parent_of-leg g)
    → IsParent c.args.network.now (travel_at (g.R.Ended.run c.args.run.now) c.args.frame) c.loop-leg.leg
    c.parent_of-leg.result
parent g c =
    parent_found c.args.network.now (travel_at (g.R.Ended.run c.args.run.now) c.args.frame) c.loop-leg.leg
    c.parent_of-leg.result c.release_of.result c.last_of-last.result c.parent_of-leg.ensures.rules c.requires.journey
    c.loop-leg-test.true c.loop-leg.invariant.0 c.release_of.ensures c.last_of-last.ensures
    (sym c.is_some.ensures ∙ c.if-is_some.false) c.parent_of-leg.ensures.leg

pub loop-leg-smaller : goal.loop-leg-smaller
loop-leg-smaller g c = (parent g c).before

pub loop-leg-preserved : goal.loop-leg-preserved
loop-leg-preserved g c = ((parent g c).within, (parent g c).last ∙ c.loop-leg.invariant.1)

pub returns-then-is_some : goal.returns-then-is_some
returns-then-is_some g c =
    last_here c.args.network.now (travel_at (g.R.Ended.run c.args.run.now) c.args.frame) c.loop-leg.leg
    c.last_of-last.result c.requires.journey c.loop-leg.invariant.0 c.last_of-last.ensures
    (inr (sym c.is_some.ensures ∙ c.if-is_some.true))
    ∙ verdict_alike c.loop-leg.invariant.1

pub returns : goal.returns
returns g c =
    last_here c.args.network.now (travel_at (g.R.Ended.run c.args.run.now) c.args.frame) c.loop-leg.leg
    c.last_of.result c.requires.journey c.loop-leg.invariant.0 c.last_of.ensures
    (inl (omega (arith, c.loop-leg-test.false)))
    ∙ verdict_alike c.loop-leg.invariant.1
