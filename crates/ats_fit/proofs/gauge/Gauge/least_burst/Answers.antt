use Rattle.std.proofs.Common.{map, Option, Some, subst}
use Rattle.ats_trace.specs.Talker.{frame_of}
use Rattle.ats_fit.specs.Steps.{IsGauged}
use Rattle.ats_fit.specs.declared.deficit.Deficit.{Deficit}
use Rattle.ats_fit.proofs.GaugeSteps.{most-most}
use Rattle.ats_fit.proofs.Least.{least-burst}
use Rattle.ats_fit.proofs.gauge.Gauge.least_burst.Goals as goal

pub least_burst-requires : goal.least_burst-requires
least_burst-requires c =
    let s = c.self.inside in
    most-most s.taken.items s.frames s.sizes c.in-Some.deficit
    (subst (λ (lack : Option Deficit). IsGauged s.taken.items s.frames s.sizes lack) c.in-Some.is c.self.invariant)

pub returns-in-Some : goal.returns-in-Some
returns-in-Some c =
    let s = c.self.inside in
    let is : IsGauged s.taken.items s.frames s.sizes (Some c.in-Some.deficit) =
    subst (λ (lack : Option Deficit). IsGauged s.taken.items s.frames s.sizes lack) c.in-Some.is c.self.invariant in
    rw (← c.self.view_is, c.in-Some.is)
    (least-burst (map frame_of s.taken.items) c.in-Some.deficit c.least_burst.result is.deficit c.least_burst.ensures)
