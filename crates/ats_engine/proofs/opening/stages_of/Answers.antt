use Rattle.std.proofs.Common.{◌-◌, map, length, arith}
use Rattle.ats_trace.specs.declared.journey.Release.{Release}
use Rattle.ats_engine_steps.specs.declared.stage.Stage.TheVariants.{Coming}
use Rattle.ats_engine.proofs.Starting.{apart-more}
use Rattle.ats_engine.proofs.opening.stages_of.Goals as goal

pub loop-preserved : goal.loop-preserved
loop-preserved c =
    apart-more (map (λ (r : Release). Coming r.at) c.args.releases.now) c.loop.stages
    c.push-in-loop.new.self (c.loop.counter - length c.args.releases.now) _ (omega arith) c.loop.invariant
    c.push-in-loop.ensures
