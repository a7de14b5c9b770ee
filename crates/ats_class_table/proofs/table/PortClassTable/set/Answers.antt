use Rattle.std.proofs.Common.{◌<◌, ℕ, set, sym, subst}
use Rattle.ats_class_table.specs.Table.{Sets, table_of}
use Rattle.ats_class_table.proofs.Values.{sets_is}
use Rattle.ats_class_table.proofs.table.PortClassTable.set.Goals as goal

pub returns : goal.returns
returns g c =
    let within : c.args.port < c.self.inside.ports =
    rw (sym c.self.view_is) at c.requires.port in
    subst (λ old. Sets c.args.port c.args.class c.args.value old
    (table_of c.self.inside.ports (set c.self.inside.values.items c.place.result c.args.value))) c.self.view_is
    (subst (λ (k : ℕ). Sets c.args.port c.args.class c.args.value
    (table_of c.self.inside.ports c.self.inside.values.items)
    (table_of c.self.inside.ports (set c.self.inside.values.items k c.args.value))) (sym c.place.ensures)
    (sets_is c.self.inside.ports c.self.inside.values.items c.args.port c.args.class c.args.value
    c.self.invariant within c.requires.class))
