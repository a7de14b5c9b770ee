use Rattle.std.proofs.Common.{◌≡◌, ◌-◌, ◌++◌, map, replicate, take, length}
use Rattle.ats_trace.specs.declared.journey.Release.{Release}
use Rattle.ats_engine_steps.specs.declared.stage.Stage.TheVariants.{Apart, Coming}
use Rattle.ats_engine.proofs.opening.stages_of.Given as goal

abbrev pub invariant-loop-release : goal.invariant-loop-release
invariant-loop-release l =
    l.stages ≡ map (λ (r : Release). Coming r.at) (take l.release-index l.releases)

abbrev pub invariant-loop : goal.invariant-loop
invariant-loop l = l.stages
    ≡ map (λ (r : Release). Coming r.at) l.releases ++ replicate (l.counter - length l.releases) Apart
