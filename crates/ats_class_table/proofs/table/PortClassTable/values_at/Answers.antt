use Rattle.std.proofs.Common.{◌≡◌, ◌+◌, ◌-◌, ◌*◌, ◌<◌, ℕ, drop, take, subst, sym, arith}
use Rattle.ats_class_table.specs.Table.{AreValuesAt, table_of}
use Rattle.ats_class_table.proofs.Values.{values_are}
use Rattle.ats_class_table.proofs.table.PortClassTable.values_at.Goals as goal

pub returns : goal.returns
returns g c =
    let within : c.args.port < c.self.inside.ports =
    rw (sym c.self.view_is) at c.requires in
    let count : ℕ = 8 * c.args.port + 8 - 8 * c.args.port in
    let eight : count ≡ 8 = omega arith in
    subst (λ table. AreValuesAt table c.args.port (take count (drop (8 * c.args.port) c.deref.result.now)))
    c.self.view_is
    (subst (λ items. AreValuesAt (table_of c.self.inside.ports c.self.inside.values.items) c.args.port
    (take count (drop (8 * c.args.port) items))) (sym c.deref.ensures.value)
    (values_are c.self.inside.ports c.self.inside.values.items c.args.port count c.self.invariant within eight))
