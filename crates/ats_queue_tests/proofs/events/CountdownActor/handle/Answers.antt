use Rattle.std.proofs.Common.{◌≡◌, ℕ, ◌+◌, ◌<◌, ◌≤◌, ◌^◌, List, ◌∷◌, length, All, subst, arith}
use Rattle.std.specs.Prelude.{IsPermutation}
use Rattle.std.proofs.lemmas.List.Elements.{All-cons, All-head}
use Rattle.std.proofs.lemmas.List.Sorted.{All-permutation}
use Rattle.ats_events.specs.declared.moment.Moment.{Moment}
use Rattle.ats_events.specs.Order.{IsInRange}
use Rattle.ats_queue_tests.proofs.events.CountdownActor.handle.Goals as goal

-- what the actor says of each entry
abbrev InTime : ℕ → Moment × ℕ → Type 0
InTime left entry = (entry.1 < left) × (entry.0.at.0 + entry.1 < 2 ^ 64)

-- the entry that was just popped
first :
    (left : ℕ) (entry : Moment × ℕ) (entries : List (Moment × ℕ))
    → All (InTime left) (entry ∷ entries)
    → InTime left entry
first left entry entries all = All-head (InTime left) entry entries all

-- where the popped entry was the only one, none is left
none_left :
    (left : ℕ) (entry : Moment × ℕ) (entries : List (Moment × ℕ))
    → length (entry ∷ entries) ≤ 1
    → All (InTime left) entries
none_left left entry entries one k d h = absurd (omega arith)

-- and one that is inserted is the only one
only :
    (left : ℕ) (entry : Moment × ℕ) (old new : List (Moment × ℕ))
    → All (InTime left) old
    → IsPermutation (entry ∷ old) new
    → InTime left entry
    → All (InTime left) new
only left entry old new none same holds =
    All-permutation (InTime left) (entry ∷ old) new same (All-cons (InTime left) entry old holds none)

pub overflow_add-self : goal.overflow_add-self
overflow_add-self g c =
    let h = c.requires.holds in
    let f = first c.args.self.now.left (c.args.moment, c.args.event) c.args.agenda.now.entries h.2 in
    omega (arith, h.3, f.0)

pub overflow_add-next : goal.overflow_add-next
overflow_add-next g c =
    let f = first c.args.self.now.left (c.args.moment, c.args.event) c.args.agenda.now.entries c.requires.holds.2 in
    omega (arith, f.1)

pub insert-requires-clause-after : goal.insert-requires-clause-after
insert-requires-clause-after g c last e =
    let f = first c.args.self.now.left (c.args.moment, c.args.event) c.args.agenda.now.entries c.requires.holds.2 in
    let next : Moment = record { at = record { 0 = c.args.moment.at.0 + 1 }; phase = 1; id = c.args.event } in
    let here : IsInRange c.args.moment = record { at = omega arith; phase = omega arith; id = omega arith } in
    let there : IsInRange next = record { at = omega (arith, f.1); phase = omega arith; id = omega arith } in
    let same : c.args.moment ≡ last = (let was = c.requires.last in cc) in
    let Before : Moment → Type 0 = λ m. g.O.TimeOrder.before c.args.agenda.now.order m next in
    let timed = g.met.O.TimeOrder.timed c.args.agenda.now.order in
    subst Before same (timed.time c.args.moment next here there (omega arith))

pub returns-then-event-gt0-clause-left : goal.returns-then-event-gt0-clause-left
returns-then-event-gt0-clause-left g c =
    let f = first c.args.self.now.left (c.args.moment, c.args.event) c.args.agenda.now.entries c.requires.holds.2 in f.0

pub returns-else-event-gt0-clause-left : goal.returns-else-event-gt0-clause-left
returns-else-event-gt0-clause-left g c =
    let f = first c.args.self.now.left (c.args.moment, c.args.event) c.args.agenda.now.entries c.requires.holds.2 in f.0

pub returns-then-event-gt0-clause-holds : goal.returns-then-event-gt0-clause-holds
returns-then-event-gt0-clause-holds g c =
    let h = c.requires.holds in
    let i = c.insert.ensures.inserted in
    let f = first c.args.self.now.left (c.args.moment, c.args.event) c.args.agenda.now.entries h.2 in
    let none = none_left c.args.event (c.args.moment, c.args.event) c.args.agenda.now.entries h.1 in
    let before = c.args.agenda.now.entries in
    let after = c.insert.new.self.entries in (
      omega (arith, h.0, i.capacity),
      omega (arith, h.1, c.insert.ensures.count),
      only c.args.event _ before after none i.entries (omega arith, omega (arith, f.1)),
      omega (arith, h.3, f.0),
    )

pub returns-else-event-gt0-clause-holds : goal.returns-else-event-gt0-clause-holds
returns-else-event-gt0-clause-holds g c =
    let h = c.requires.holds in
    let f = first c.args.self.now.left (c.args.moment, c.args.event) c.args.agenda.now.entries h.2 in
    let none = none_left c.args.event (c.args.moment, c.args.event) c.args.agenda.now.entries h.1 in
    (h.0, omega (arith, h.1), none, omega (arith, h.3, f.0))
