use Rattle.std.proofs.lemmas.Option.{IfSome_then}
use Rattle.ats_heap.proofs.Lines.{ahead_pops, none_of_both, pops_tree, tree_kept}
use Rattle.ats_heap.proofs.joining.take_first.Goals as goal

pub returns-then-is_ahead-clause-popped : goal.returns-then-is_ahead-clause-popped
returns-then-is_ahead-clause-popped g c =
    let order = c.args.tree.now.order in
    (ahead_pops (g.O.Precedence.covers order) (g.O.Precedence.goes_before order)
    (g.met.O.Precedence.weak_order order) c.take.result c.args.line.now c.take.new.self c.args.tree.now.items
    c.requires c.if-is_ahead.ensures.line c.take.ensures.items).0

pub returns-then-is_ahead-clause-kept : goal.returns-then-is_ahead-clause-kept
returns-then-is_ahead-clause-kept g c =
    let order = c.args.tree.now.order in
    (ahead_pops (g.O.Precedence.covers order) (g.O.Precedence.goes_before order)
    (g.met.O.Precedence.weak_order order) c.take.result c.args.line.now c.take.new.self c.args.tree.now.items
    c.requires c.if-is_ahead.ensures.line c.take.ensures.items).1

pub returns-clause-popped : goal.returns-clause-popped
returns-clause-popped g c =
    let order = c.args.tree.now.order in
    IfSome_then c.pop.result c.pop.ensures.popped
    (λ x pops. pops_tree (g.O.Precedence.covers order) (g.O.Precedence.goes_before order)
    (g.met.O.Precedence.weak_order order) c.args.line.now c.args.tree.now.items c.pop.new.self.items x c.requires
    c.if-is_ahead.ensures.tree pops)

pub returns-clause-none : goal.returns-clause-none
returns-clause-none g c =
    let order = c.args.tree.now.order in
    none_of_both (g.O.Precedence.covers order) (g.O.Precedence.goes_before order)
    (g.met.O.Precedence.weak_order order) c.pop.result c.args.line.now c.args.tree.now.items
    c.if-is_ahead.ensures.tree c.pop.ensures.none

pub returns-clause-kept : goal.returns-clause-kept
returns-clause-kept g c =
    let order = c.args.tree.now.order in
    tree_kept (g.O.Precedence.covers order) (g.O.Precedence.goes_before order)
    (g.met.O.Precedence.weak_order order) c.pop.result c.args.line.now c.args.tree.now c.pop.new.self c.requires
    c.pop.ensures.popped c.pop.ensures.unchanged
