use Rattle.std.proofs.Common.{◌<◌, ℕ, Some, get_or, ◌∙◌, ap, sym}
use Rattle.ats_class_table.specs.Table.{value_at}
use Rattle.ats_class_table.proofs.Values.{value_is}
use Rattle.ats_class_table.proofs.table.PortClassTable.get.Goals as goal

pub returns : goal.returns
returns g c =
    let within : c.args.port < c.self.inside.ports =
    rw (sym c.self.view_is) at c.requires.port in
    ap (λ t. value_at t c.args.port c.args.class) (sym c.self.view_is)
    ∙ value_is c.self.inside.ports c.self.inside.values.items c.args.port c.args.class c.index.result.now
    c.self.invariant within c.requires.class
    ∙ ap (λ (k : ℕ). Some (get_or c.self.inside.values.items k c.index.result.now)) (sym c.place.ensures)
    ∙ ap Some (sym c.index.ensures)
