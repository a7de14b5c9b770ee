use Rattle.std.proofs.Common.{◌≡◌, length, vec_len, sym, ◌∙◌, arith}
use Rattle.std.proofs.lemmas.Bool.{eqb-true, eq-eqb}
use Rattle.ats_trace.proofs.RowLemmas.{length-run, none-run}
use Rattle.ats_trace.proofs.run.Run.is_empty.Goals as goal

pub returns : goal.returns
returns c =
    let firsts = c.self.inside.firsts in
    let none = none-run _ firsts.items (length-run _ _ _ _ _ c.self.view_is c.self.invariant) in (
      λ empty.
          (let zero : vec_len firsts ≡ 0 = eqb-true _ 0 (sym c.is_empty.ensures ∙ empty) in
          none.0 (omega (arith, zero))),
      λ empty.
          (let zero : length firsts.items ≡ 0 = none.1 empty in
          c.is_empty.ensures ∙ eq-eqb (vec_len firsts) 0 (omega (arith, zero))),
    )
