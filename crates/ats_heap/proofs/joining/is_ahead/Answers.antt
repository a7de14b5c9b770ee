use Rattle.std.proofs.Common.{sym, ◌∙◌, refl}
use Rattle.ats_heap.proofs.Lines.{led_by_top}
use Rattle.ats_heap.proofs.joining.is_ahead.Goals as goal

pub returns-then-goes_before-clause-tree : goal.returns-then-goes_before-clause-tree
returns-then-goes_before-clause-tree g c =
    let order = c.args.tree.now.order in
    led_by_top (g.O.Precedence.covers order) (g.O.Precedence.goes_before order)
    (g.met.O.Precedence.weak_order order) c.args.line.now c.args.tree.now.items c.in-Some.first c.in-Some-peek.top
    c.requires (sym c.first.ensures ∙ c.in-Some.is) c.in-Some-peek.ensures.first
    (rw c.order.ensures at (c.if-goes_before.ensures.0 refl))
