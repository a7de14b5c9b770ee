use Rattle.std.proofs.lemmas.Option.{IfSome_then}
use Rattle.ats_heap.proofs.Lines.{ahead_first, first_of_tree, none_of_both}
use Rattle.ats_heap.proofs.joining.first_of.Goals as goal

pub returns-then-is_ahead-clause-first : goal.returns-then-is_ahead-clause-first
returns-then-is_ahead-clause-first g c =
    let order = c.args.tree.now.order in
    rw c.first.ensures
    (ahead_first (g.O.Precedence.covers order) (g.O.Precedence.goes_before order)
    (g.met.O.Precedence.weak_order order) c.args.line.now c.args.tree.now.items c.requires
    c.if-is_ahead.ensures.line)

pub returns-clause-first : goal.returns-clause-first
returns-clause-first g c =
    let order = c.args.tree.now.order in
    IfSome_then c.peek.result c.peek.ensures.first
    (λ x is. first_of_tree (g.O.Precedence.covers order) (g.O.Precedence.goes_before order)
    (g.met.O.Precedence.weak_order order) c.args.line.now c.args.tree.now.items x c.requires
    c.if-is_ahead.ensures.tree is)

pub returns-clause-none : goal.returns-clause-none
returns-clause-none g c =
    let order = c.args.tree.now.order in
    none_of_both (g.O.Precedence.covers order) (g.O.Precedence.goes_before order)
    (g.met.O.Precedence.weak_order order) c.peek.result c.args.line.now c.args.tree.now.items
    c.if-is_ahead.ensures.tree c.peek.ensures.none
