use Rattle.std.proofs.Common.{◌∷◌}
use Rattle.ats_events.proofs.actor.drive.Goals as goal

pub handle-requires-clause-holds : goal.handle-requires-clause-holds
handle-requires-clause-holds g c =
    let popped = c.in-Some.ensures.popped in
    rw (popped.capacity, popped.order)
    (g.met.A.Actor.permuted c.loop-entry.actor c.loop-entry.agenda.entries (c.in-Some.entry ∷ c.pop.new.self.entries)
    c.loop-entry.agenda.capacity c.loop-entry.agenda.order popped.entries c.loop-entry.invariant.holds)
