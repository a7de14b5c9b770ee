use Rattle.std.proofs.Common.{ℕ, List, length, ap, arith}
use Rattle.ats_trace.proofs.RowLemmas.{length-run, looked-up, hops-told, span-within}
use Rattle.ats_trace.proofs.run.Run.hops_of.Goals as goal

pub row_of-requires : goal.row_of-requires
row_of-requires c = omega (
  arith,
  c.requires.frame,
  length-run _ _ _ _ _ c.self.view_is c.self.invariant,
  ap (λ (ns : List ℕ). length ns) c.deref.ensures.value,
)

pub index-span-requires : goal.index-span-requires
index-span-requires c =
    let row = looked-up _ _ _ _ _ _ _ _ _ c.self.view_is c.self.invariant c.requires.frame c.requires.leg
    c.deref.ensures.value c.row_of.ensures in
    omega (arith, row.within, c.self.invariant.spanned)

pub slice_bounds-result-end : goal.slice_bounds-result-end
slice_bounds-result-end c =
    let row = looked-up _ _ _ _ _ _ _ _ _ c.self.view_is c.self.invariant c.requires.frame c.requires.leg
    c.deref.ensures.value c.row_of.ensures in
    span-within _ _ _ c.row_of.result _ c.self.invariant.within (omega (arith, row.within, c.self.invariant.spanned))
    c.index-span.ensures c.deref-2.ensures.value

pub returns : goal.returns
returns c =
    let row = looked-up _ _ _ _ _ _ _ _ _ c.self.view_is c.self.invariant c.requires.frame c.requires.leg
    c.deref.ensures.value c.row_of.ensures in
    hops-told _ _ _ _ _ _ _ row c.index-span.ensures c.deref-2.ensures.value
