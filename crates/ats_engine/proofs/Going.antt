use Rattle.std.proofs.Common.{◌≡◌, ℕ, ◌+◌, ◌<◌, List, ◌++◌, length, get_or, All, Some, refl, sym, ap}
use Rattle.std.proofs.Common.{◌∙◌, subst, inl, inr, arith}
use Rattle.std.proofs.lemmas.Bool.{cases_order}
use Rattle.std.proofs.lemmas.List.Elements.{All-head, All-tail}
use Rattle.ats_facts.proofs.Lists.{all_left}
use Rattle.ats_events.specs.Contents.{Contents}
use Rattle.ats_events.specs.Order.{IsInRange, IsIrreflexive, IsTransitive, IsTimed}
use Rattle.ats_events.specs.declared.moment.Moment.{Moment}
use Rattle.ats_trace.specs.declared.journey.Release.{Release}
use Rattle.ats_engine_steps.specs.Bounds.{steps_left}
use Rattle.ats_engine_steps.specs.Course.{Course}
use Rattle.ats_engine_steps.specs.Invariant.{Holds}
use Rattle.ats_engine_steps.specs.Seen.{course_of}
use Rattle.ats_engine_steps.specs.Entries.{event_of}
use Rattle.ats_engine_steps.specs.declared.event.Event.{Event}
use Rattle.ats_engine_steps.specs.declared.state.State.{State}
use Rattle.ats_engine_proofs.specs.Next.{IsNext, IsAfter}
use Rattle.ats_engine.specs.Entering.{MayEnter, Enters}
use Rattle.ats_engine.specs.Ready.{IsAtEvent, Goes, releases_in}
use Rattle.ats_engine_proofs.proofs.Entries.{before-is-reached, holds-permuted, moments-apart, moments-in-range}
use Rattle.ats_engine_proofs.proofs.Entries.{room-for-all}
use Rattle.ats_engine_proofs.proofs.Rows.{rows-all}
use Rattle.ats_engine.proofs.Released.{released as releases-are}
use Rattle.ats_engine.proofs.Telling.{events-told}
use Rattle.ats_engine.specs.declared.runner.Runner.{Runner}

-- a moment that is after another one by time and phase is so by a lawful order
before-if-after : (before : Moment → Moment → Type 0) → IsTimed before → (now next : Moment) → IsInRange now
    → IsInRange next → IsAfter now next → before now next
before-if-after before timed now next hn hx after =
    elim (cases_order now.at.0 next.at.0) as (λ _. before now next) [
      | inl same ↦ timed.phase now next hn hx same (after.phase same)
      | inr either ↦ elim either as (λ _. before now next) [
        | inl less ↦ timed.time now next hn hx less
        | inr more ↦ absurd (omega (arith, after.time))
      ]
    ]

-- the event whose entry was popped is the next one
pub is-next : {T O P S : Type 0} {key : T → ℕ → ℕ → ℕ} {wait : P → ℕ → ℕ → ℕ} {before : O → Moment → Moment → Type 0}
    {runner : Runner T P S} {agenda : Contents O Event} {now : Moment} {event : Event}
    → IsAtEvent key wait before runner agenda now event → ((order : O) → IsIrreflexive (before order))
    → ((order : O) → IsTransitive (before order)) → ((order : O) → IsTimed (before order))
    → IsNext key (wait runner.pace) runner.network.now (releases_in runner.state.records) (course_of runner.state) now
    event agenda.entries
is-next {T} {O} {P} {S} {key} {wait} {before} {runner} {agenda} {now} {event} at irreflexive transitive timed =
    let ranges = moments-in-range at.ready.holds in
    let here = All-head (λ (x : Moment × Event). IsInRange x.0) (now, event) agenda.entries ranges in
    let there = All-tail (λ (x : Moment × Event). IsInRange x.0) (now, event) agenda.entries ranges in
    record {
      holds = at.ready.holds;
      first = λ k d within. before-is-reached (before agenda.order) (irreflexive agenda.order)
          (transitive agenda.order) (timed agenda.order) now _ here (there k d within) (at.first k d within);
    }

-- entries that a step brings, so that what holds does so with them, may be put into the agenda
pub may-enter : {T O P S : Type 0} {key : T → ℕ → ℕ → ℕ} {wait : P → ℕ → ℕ → ℕ}
    {before : O → Moment → Moment → Type 0} {runner : Runner T P S} {agenda : Contents O Event} {now : Moment}
    {event : Event} {new : Course T} {more : List (Moment × Event)}
    → IsAtEvent key wait before runner agenda now event → ((order : O) → IsTimed (before order))
    → Holds key (wait runner.pace) runner.network.now (releases_in runner.state.records) new (more ++ agenda.entries)
    → All (λ (entry : Moment × Event). IsAfter now entry.0) more → MayEnter before agenda more
may-enter {T} {O} {P} {S} {key} {wait} {before} {runner} {agenda} {now} {event} {new} {more} at timed holds after =
    let here = All-head (λ (x : Moment × Event). IsInRange x.0) (now, event) agenda.entries
    (moments-in-range at.ready.holds) in
    let there = all_left (λ (x : Moment × Event). IsInRange x.0) more agenda.entries (moments-in-range holds) in
    record {
      room = omega (arith, room-for-all holds, at.ready.room, rows-all holds.shape, rows-all at.ready.holds.shape);
      apart = moments-apart holds;
      after = λ k d within. (let x : Moment × Event = get_or more k d in
          let later = before-if-after (before agenda.order) (timed agenda.order) now x.0 here (there k d within)
          (after k d within) in
          λ (last : Moment) (is : agenda.last ≡ Some last). (let same : now ≡ last = cc (at.last, is) in
          subst (λ (m : Moment). before agenda.order m x.0) same later));
      told = all_left (λ (x : Moment × Event). event_of x.0 ≡ x.1) more agenda.entries (events-told holds);
    }

-- a step was taken, and its entries were put into the agenda
pub goes : {T O P S : Type 0} {key : T → ℕ → ℕ → ℕ} {wait : P → ℕ → ℕ → ℕ} {before : O → Moment → Moment → Type 0}
    {runner : Runner T P S} {agenda after : Contents O Event} {now : Moment} {event : Event} (state : State T S)
    {more : List (Moment × Event)} → IsAtEvent key wait before runner agenda now event
    → Holds key (wait runner.pace) runner.network.now (releases_in runner.state.records) (course_of state)
    (more ++ agenda.entries)
    → steps_left (course_of state) < steps_left (course_of runner.state) → state.tie ≡ runner.state.tie
    → Enters agenda after more → Goes key wait runner (record runner { state = state }) agenda after
goes {T} {O} {P} {S} {key} {wait} {before} {runner} {agenda} {after} state at holds less tie enters =
    let released : releases_in state.records ≡ releases_in runner.state.records = releases-are holds.shape in
    let rows : length runner.state.records.legs ≡ length state.records.legs =
    rows-all at.ready.holds.shape ∙ sym (rows-all holds.shape) in
    record {
      left = less;
      ready = record {
        holds = subst (λ (rs : List Release). Holds key (wait runner.pace) runner.network.now rs (course_of state)
            after.entries) (sym released) (holds-permuted enters.entries holds);
        schedulers = at.ready.schedulers;
        room = enters.capacity ∙ at.ready.room
            ∙ ap (λ (n : ℕ). n + length runner.network.now.topology.ports) rows;
      };
      follows = record { network = refl; releases = released; tie = tie; pace = refl };
      capacity = enters.capacity;
      order = enters.order;
    }
