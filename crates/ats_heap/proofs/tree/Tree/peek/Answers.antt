use Rattle.std.proofs.Common.{◌<◌, length, sym, arith}
use Rattle.std.proofs.lemmas.Grind.{common_steps}
use Rattle.ats_heap.proofs.Tops.{top_leads}
use Rattle.ats_heap.proofs.tree.Tree.peek.Goals as goal

pub returns-clause-first : goal.returns-clause-first
returns-clause-first g c =
    let order = c.self.inside.order in
    let xs = c.self.inside.items.items in
    let some : 0 < length xs = grind (arith, common_steps) in
    let led = top_leads (g.O.Precedence.covers order) (g.O.Precedence.goes_before order)
    (g.met.O.Precedence.weak_order order) xs c.index.result.now some c.index.ensures
    c.self.invariant.covered c.self.invariant.heap in
    rw (← c.self.view_is)
    record {
      among = (0, some, sym c.index.ensures);
      first = λ k d h. (led k d h).after;
    }
