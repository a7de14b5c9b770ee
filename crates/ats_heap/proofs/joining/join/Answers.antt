use Rattle.ats_heap.proofs.Lines.{joins_last}
use Rattle.ats_heap.proofs.Places.{joins_behind}
use Rattle.ats_heap.proofs.joining.join.Goals as goal

pub returns-then-is_last-clause-items : goal.returns-then-is_last-clause-items
returns-then-is_last-clause-items g c =
    (joins_last (g.O.Precedence.covers c.args.order) (g.O.Precedence.goes_before c.args.order)
    (g.met.O.Precedence.weak_order c.args.order) c.push_last.result c.args.line.now c.push_last.new.self c.args.item
    c.requires.item c.requires.line c.if-is_last.ensures.all c.push_last.ensures).1

pub returns-then-is_last-clause-line : goal.returns-then-is_last-clause-line
returns-then-is_last-clause-line g c =
    (joins_last (g.O.Precedence.covers c.args.order) (g.O.Precedence.goes_before c.args.order)
    (g.met.O.Precedence.weak_order c.args.order) c.push_last.result c.args.line.now c.push_last.new.self c.args.item
    c.requires.item c.requires.line c.if-is_last.ensures.all c.push_last.ensures).0

pub returns-clause-items : goal.returns-clause-items
returns-clause-items g c =
    (joins_behind (g.O.Precedence.covers c.args.order) (g.O.Precedence.goes_before c.args.order)
    (g.met.O.Precedence.weak_order c.args.order) c.put_behind.result c.args.line.now c.put_behind.new.self c.args.item
    c.in-Some.place c.requires.item c.requires.line c.in-Some.ensures c.put_behind.ensures).1

pub returns-clause-line : goal.returns-clause-line
returns-clause-line g c =
    (joins_behind (g.O.Precedence.covers c.args.order) (g.O.Precedence.goes_before c.args.order)
    (g.met.O.Precedence.weak_order c.args.order) c.put_behind.result c.args.line.now c.put_behind.new.self c.args.item
    c.in-Some.place c.requires.item c.requires.line c.in-Some.ensures c.put_behind.ensures).0
