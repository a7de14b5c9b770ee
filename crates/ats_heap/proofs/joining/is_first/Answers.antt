use Rattle.std.proofs.Common.{sym, ◌∙◌}
use Rattle.ats_heap.proofs.Lines.{leads_first}
use Rattle.ats_heap.proofs.joining.is_first.Goals as goal

pub returns : goal.returns
returns g c =
    leads_first (g.O.Precedence.covers c.args.order) (g.O.Precedence.goes_before c.args.order)
    (g.met.O.Precedence.weak_order c.args.order) c.args.line.now c.in-Some.first c.args.item c.requires.line
    c.requires.item (sym c.first.ensures ∙ c.in-Some.is) (λ b. (let e = c.if-goes_before.ensures.1 b in absurd (cc)))
