use Rattle.std.proofs.Common.{◌≡◌, ◌∙◌, ℕ, List, ap, rules, length, length-take, take, arith}
use Rattle.ats_trace.specs.declared.journey.Journey.{Journey}
use Rattle.ats_trace.proofs.RowLemmas.{journeys-run}
use Rattle.ats_trace.proofs.run.Run.journeys.Goals as goal

pub slice_bounds-result-end : goal.slice_bounds-result-end
slice_bounds-result-end c = omega (
  arith,
  length-take c.len.result c.deref.result.now,
  c.len.ensures,
  c.self.invariant.copies.trunks,
  ap (λ (js : List Journey). length js) c.deref.ensures.value,
)

pub returns : goal.returns
returns c =
    let many : c.len.result ≡ length c.self.inside.firsts.items = search rules in
    ap (λ (js : List Journey). take c.len.result js) c.deref.ensures.value
    ∙ ap (λ (n : ℕ). take n c.self.inside.journeys.items) many
    ∙ journeys-run _ _ _ _ _ c.self.view_is c.self.invariant
