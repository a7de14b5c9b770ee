use Rattle.std.proofs.Common.{ℕ, List, length, ap, ◌∙◌, arith}
use Rattle.ats_trace.specs.Journey.{Leg}
use Rattle.ats_run_records.proofs.Ended.{length-ends, told-in}
use Rattle.ats_run_records.proofs.ends.Ends.ending_of.Goals as goal

pub row_of-requires : goal.row_of-requires
row_of-requires c = omega (
  arith,
  c.requires.frame,
  length-ends c.self.invariant c.self.view_is,
  ap (λ (ns : List ℕ). length ns) c.deref.ensures.value,
)

pub index-requires : goal.index-requires
index-requires c =
    let row = told-in c.deref.result.now c.self.invariant c.self.view_is c.requires.frame c.requires.leg
    c.deref.ensures.value c.row_of.ensures in
    omega (arith, row.within)

pub returns : goal.returns
returns c =
    let row = told-in c.deref.result.now c.self.invariant c.self.view_is c.requires.frame c.requires.leg
    c.deref.ensures.value c.row_of.ensures in
    c.ending.ensures ∙ ap (λ (l : Leg). l.ending) (row.tells c.index.result.now c.index.ensures)
