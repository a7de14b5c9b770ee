use Rattle.std.proofs.Common.{◌≡◌, arith}
use Rattle.ats_events.specs.Order.{IsInRange}
use Rattle.ats_events.proofs.Popped.{kept-insert}
use Rattle.ats_events.proofs.agenda.Agenda.insert.Goals as goal

pub invariant_of-self : goal.invariant_of-self
invariant_of-self g c =
    let order = c.self.inside.entries.order.order in
    let range : IsInRange c.args.moment = record { at = omega arith; phase = omega arith; id = omega arith } in
    let same : c.insert.new.self.order.order ≡ order = cc in
    rw same
    (kept-insert (g.O.TimeOrder.before order) c.self.inside.entries.items c.insert.new.self.items
    (c.args.moment, c.args.event) c.self.inside.last c.insert.ensures.items range
    (rw (← c.self.view_is) at c.requires.apart) (rw (← c.self.view_is) at c.requires.after) c.self.invariant)
