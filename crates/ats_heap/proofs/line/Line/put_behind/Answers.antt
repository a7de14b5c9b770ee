use Rattle.std.proofs.Common.{◌≡◌, ◌+◌, arith}
use Rattle.std.specs.Prelude.{insert}
use Rattle.std.proofs.lemmas.Grind.{common_steps}
use Rattle.ats_heap.proofs.Places.{stored-insert}
use Rattle.ats_heap.proofs.line.Line.put_behind.Goals as goal

pub returns : goal.returns
returns g c =
    let put : c.insert.new.self.items
    ≡ insert c.self.inside.items.items (c.self.inside.gone + c.args.place) c.args.item =
    grind (arith, common_steps) in
    rw (put, ← c.self.view_is)
    (stored-insert c.self.inside.first c.self.inside.gone c.args.place c.self.inside.items.items c.args.item
    c.self.invariant (rw (← c.self.view_is) at c.requires))
