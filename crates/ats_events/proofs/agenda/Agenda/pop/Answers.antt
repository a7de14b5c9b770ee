use Rattle.std.proofs.Common.{◌≡◌, Some, refl}
use Rattle.std.proofs.lemmas.List.Elements.{All-head}
use Rattle.std.proofs.lemmas.List.Sorted.{All-permutation}
use Rattle.ats_events.proofs.Popped.{before_rest, kept-pop}
use Rattle.ats_events.proofs.agenda.Agenda.pop.Goals as goal

pub invariant_of-self-2 : goal.invariant_of-self-2
invariant_of-self-2 g c =
    let order = c.self.inside.entries.order.order in
    let same : c.pop.new.self.order.order ≡ order = cc in
    rw same
    (kept-pop (g.O.TimeOrder.before order) c.self.inside.entries.items c.pop.new.self.items c.in_ok-entry.entry
    c.self.inside.last (g.met.O.TimeOrder.total order) c.self.invariant c.in_ok-entry.ensures.popped)

pub returns-clause-popped : goal.returns-clause-popped
returns-clause-popped g c =
    let order = c.self.inside.entries.order.order in
    let same : c.pop.new.self.order.order ≡ order = cc in
    let room : c.pop.new.self.capacity ≡ c.self.inside.entries.capacity = cc in
    let popped = c.in_ok-entry.ensures.popped in
    rw (← c.self.view_is)
    record {
      entries = popped.items;
      first = before_rest (g.O.TimeOrder.before order) c.self.inside.entries.items c.pop.new.self.items
          c.in_ok-entry.entry c.self.inside.last (g.met.O.TimeOrder.total order) c.self.invariant popped;
      last = refl {a = Some c.in_ok-entry.entry.0};
      capacity = room;
      order = same;
    }

pub returns-clause-after : goal.returns-clause-after
returns-clause-after g c =
    let order = c.self.inside.entries.order.order in
    let popped = c.in_ok-entry.ensures.popped in
    let before = g.O.TimeOrder.before order in
    rw (← c.self.view_is)
    (λ m e. All-head (λ x. before m x.0) c.in_ok-entry.entry c.pop.new.self.items
    (All-permutation (λ x. before m x.0) _ _ popped.items (c.self.invariant.after m e)))
