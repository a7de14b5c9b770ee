use Rattle.std.proofs.Common.{◌≡◌, ℕ, List, length, ap, arith, rules}
use Rattle.ats_trace.proofs.RowLemmas.{length-run, counted}
use Rattle.ats_trace.proofs.run.Run.legs.Goals as goal

pub index-requires : goal.index-requires
index-requires c = omega (arith, c.requires, length-run _ _ _ _ _ c.self.view_is c.self.invariant)

pub end_of-requires : goal.end_of-requires
end_of-requires c = omega (
  arith,
  c.requires,
  length-run _ _ _ _ _ c.self.view_is c.self.invariant,
  ap (λ (ns : List ℕ). length ns) c.deref.ensures.value,
)

pub overflow_sub-result : goal.overflow_sub-result
overflow_sub-result c =
    let many : c.len.result ≡ length c.self.inside.journeys.items = search rules in
    (counted _ _ _ _ _ _ _ _ _ _ c.self.view_is c.self.invariant c.requires c.index.ensures
    c.deref.ensures.value many c.end_of.ensures).ascends

pub returns : goal.returns
returns c =
    let many : c.len.result ≡ length c.self.inside.journeys.items = search rules in
    (counted _ _ _ _ _ _ _ _ _ _ c.self.view_is c.self.invariant c.requires c.index.ensures
    c.deref.ensures.value many c.end_of.ensures).all
