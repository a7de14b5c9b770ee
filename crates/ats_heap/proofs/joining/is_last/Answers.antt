use Rattle.std.proofs.Common.{sym, ◌∙◌}
use Rattle.ats_heap.proofs.Lines.{led_by_last}
use Rattle.ats_heap.proofs.joining.is_last.Goals as goal

pub returns-clause-all : goal.returns-clause-all
returns-clause-all g c =
    led_by_last (g.O.Precedence.covers c.args.order) (g.O.Precedence.goes_before c.args.order)
    (g.met.O.Precedence.weak_order c.args.order) c.args.line.now c.in-Some.last c.args.item c.requires.line
    c.requires.item (sym c.last.ensures ∙ c.in-Some.is) (λ b. (let e = c.if-goes_before.ensures.1 b in absurd (cc)))
