use Rattle.std.proofs.Common.{ℕ, List, length, ap, ◌∙◌, arith}
use Rattle.ats_trace.specs.Journey.{Leg}
use Rattle.ats_trace.specs.declared.journey.Journey.{Journey}
use Rattle.ats_trace.specs.declared.journey.Span.{Span}
use Rattle.ats_trace.proofs.RowLemmas.{length-run, looked-up}
use Rattle.ats_trace.proofs.run.Run.ending_of.Goals as goal

pub row_of-requires : goal.row_of-requires
row_of-requires c = omega (
  arith,
  c.requires.frame,
  length-run _ _ _ _ _ c.self.view_is c.self.invariant,
  ap (λ (ns : List ℕ). length ns) c.deref.ensures.value,
)

pub index-requires : goal.index-requires
index-requires c =
    let row = looked-up _ _ _ _ _ _ _ _ _ c.self.view_is c.self.invariant c.requires.frame c.requires.leg
    c.deref.ensures.value c.row_of.ensures in
    omega (arith, row.within)

pub returns : goal.returns
returns c =
    let row = looked-up _ _ _ _ _ _ _ _ _ c.self.view_is c.self.invariant c.requires.frame c.requires.leg
    c.deref.ensures.value c.row_of.ensures in
    let no_span : Span = record { first = 0; leg = 0; count = 0; room = 0 } in
    ap (λ (j : Journey). j.ending) c.index.ensures
    ∙ ap (λ (l : Leg). l.ending) (row.tells c.index.result.now no_span)
