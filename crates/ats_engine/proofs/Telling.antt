use Rattle.std.proofs.Common.{◌≡◌, ℕ, ◌<◌, List, [], ◌∷◌, length, get_or, All, Some, Option, sym, ap, subst}
use Rattle.std.proofs.Common.{arith}
use Rattle.std.specs.Prelude.{⊤, ◌≢◌}
use Rattle.std.specs.Option.{option_to_list}
use Rattle.std.proofs.lemmas.List.{length-map}
use Rattle.std.proofs.lemmas.List.Elements.{All-head, All-map}
use Rattle.ats_facts.proofs.Lists.{all_unmapped}
use Rattle.std.proofs.lemmas.List.Sorted.{IsPermutation-map}
use Rattle.ats_events.specs.Contents.{Contents}
use Rattle.ats_events.specs.Steps.{Inserts}
use Rattle.ats_events.specs.declared.moment.Moment.{Moment}
use Rattle.ats_trace.specs.declared.journey.Release.{Release}
use Rattle.ats_network.specs.Network.{DeclaredNetwork}
use Rattle.ats_engine_steps.specs.Course.{Course}
use Rattle.ats_engine_steps.specs.Entries.{event_of}
use Rattle.ats_engine_steps.specs.Invariant.{Holds}
use Rattle.ats_engine_steps.specs.declared.event.Event.{Event}
use Rattle.ats_engine_steps.specs.declared.event.Event.TheVariants.{Arrival, Eligibility, Selection}
use Rattle.ats_engine_proofs.proofs.Events.{IsOf, is-of}
use Rattle.ats_engine.specs.Entering.{MayEnter, Enters}
use Rattle.ats_engine.proofs.Joining.{may-enter-some}
use Rattle.ats_engine.specs.Ready.{IsReady, IsAtEvent}
use Rattle.ats_engine.specs.Told.{with_event, told, agenda_told}
use Rattle.ats_engine.specs.declared.runner.Runner.{Runner}

-- the moment of an event tells it
event-told : (event : Event) (moment : Moment) → IsOf event moment → event_of moment ≡ event
event-told (Arrival frame) moment own = rw own.phase (ap Arrival own.number)
event-told (Eligibility frame) moment own = rw own.phase (ap Eligibility own.number)
event-told (Selection port) moment own = rw own.phase (ap Selection own.number)

-- as each entry does
pub events-told : {T : Type 0} {key : T → ℕ → ℕ → ℕ} {wait : ℕ → ℕ → ℕ} {network : DeclaredNetwork}
    {releases : List Release} {course : Course T} {entries : List (Moment × Event)}
    → Holds key wait network releases course entries
    → All (λ (x : Moment × Event). event_of x.0 ≡ x.1) entries
events-told {T} {key} {wait} {network} {releases} {course} {entries} holds k d h =
    let x : Moment × Event = get_or entries k d in
    event-told x.1 x.0 (is-of course x.1 x.0 (holds.awaited.each k d h))

-- an agenda that has room for an entry has it without the events
pub told-room : {O : Type 0} {before : O → Moment → Moment → Type 0} (agenda : Contents O ⊤) {entry : Moment × Event}
    → MayEnter before (agenda_told agenda) (entry ∷ [])
    → length agenda.entries < agenda.capacity
told-room agenda may = omega (arith, may.room, length-map agenda.entries with_event)

-- no entry has this moment, with or without the events
pub told-apart : (entries : List (Moment × ⊤)) {moment : Moment}
    → All (λ (y : Moment × Event). y.0 ≢ moment) (told entries) → All (λ (y : Moment × ⊤). y.0 ≢ moment) entries
told-apart entries {moment} apart = all_unmapped (λ (y : Moment × Event). y.0 ≢ moment) with_event entries apart

-- what is put in is put in with its event
pub inserted-told : {O : Type 0} {before : Moment → Moment → Type 0} {old new : Contents O ⊤} {moment : Moment}
    {event : Event} → event_of moment ≡ event → Inserts before old new (moment, tt)
    → Inserts before (agenda_told old) (agenda_told new) (moment, event)
inserted-told {O} {before} {old} {new} {moment} {event} is inserts =
    subst (λ (e : Event). Inserts before (agenda_told old) (agenda_told new) (moment, e)) is (record {
      room = omega (arith, inserts.room, length-map old.entries with_event);
      apart = All-map (λ (y : Moment × Event). y.0 ≢ moment) with_event old.entries inserts.apart;
      after = inserts.after;
      entries = IsPermutation-map with_event _ _ inserts.entries;
      last = inserts.last;
      capacity = inserts.capacity;
      order = inserts.order;
    })

-- and then the agenda has entered it
pub entered-told : {O : Type 0} {before : Moment → Moment → Type 0} {old new : Contents O ⊤} {entry : Moment × Event}
    → event_of entry.0 ≡ entry.1 → Inserts before old new (entry.0, tt)
    → Enters (agenda_told old) (agenda_told new) (entry ∷ [])
entered-told {O} {before} {old} {new} {entry} is inserts =
    let inserted = inserted-told is inserts in
    record {
      entries = inserted.entries;
      last = inserted.last;
      capacity = inserted.capacity;
      order = inserted.order;
    }

-- where there is an entry that may be put in, it is
pub entered-some : {O : Type 0} {before : O → Moment → Moment → Type 0} (old new : Contents O ⊤)
    {option : Option (Moment × Event)} {entry : Moment × Event} → option ≡ Some entry
    → MayEnter before (agenda_told old) (option_to_list option) → Inserts (before old.order) old new (entry.0, tt)
    → Enters (agenda_told old) (agenda_told new) (option_to_list option)
entered-some {O} {before} old new {option} {entry} is may inserts =
    let tells : event_of entry.0 ≡ entry.1 =
    All-head (λ (x : Moment × Event). event_of x.0 ≡ x.1) entry [] (may-enter-some is may).told in
    subst (λ (o : Option (Moment × Event)). Enters (agenda_told old) (agenda_told new) (option_to_list o)) (sym is)
    (entered-told tells inserts)

-- what holds at a moment that was popped does so at its event
pub at-event : {T O P S : Type 0} {key : T → ℕ → ℕ → ℕ} {wait : P → ℕ → ℕ → ℕ} {before : O → Moment → Moment → Type 0}
    {runner : Runner T P S} (agenda : Contents O ⊤) {now : Moment} {entry : ⊤} {event : Event} → event_of now ≡ event
    → IsReady key wait runner (told ((now, entry) ∷ agenda.entries)) agenda.capacity → agenda.last ≡ Some now
    → All (λ (x : Moment × ⊤). before agenda.order now x.0) agenda.entries
    → IsAtEvent key wait before runner (agenda_told agenda) now event
at-event {T} {O} {P} {S} {key} {wait} {before} {runner} agenda {now} {entry} {event} is ready last first =
    subst (IsAtEvent key wait before runner (agenda_told agenda) now) is (record {
      ready = ready;
      last = last;
      first = All-map (λ (x : Moment × Event). before agenda.order now x.0) with_event agenda.entries first;
    })
