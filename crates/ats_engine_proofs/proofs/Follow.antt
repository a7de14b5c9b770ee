-- What follows the next event.
use Rattle.std.proofs.Common.{◌≡◌, ℕ, ◌<◌, List, ◌∷◌, ◌++◌, length, get_or, set, All, sym, ap, ◌∙◌, subst}
use Rattle.std.proofs.Common.{inl, inr, arith}
use Rattle.std.specs.Prelude.{◌≢◌, slice_index_or}
use Rattle.std.proofs.lemmas.Bool.{cases_lt}
use Rattle.std.proofs.lemmas.List.{get_or-set_same, get_or-set_other, get_or_past}
use Rattle.std.proofs.lemmas.List.Elements.{All-append}
use Rattle.ats_network.specs.Network.{DeclaredNetwork}
use Rattle.ats_events.specs.declared.moment.Moment.{Moment}
use Rattle.ats_trace.specs.declared.journey.Release.{Release}
use Rattle.ats_engine_steps.specs.Course.{Course, stage_at, turn_at}
use Rattle.ats_engine_steps.specs.Entries.{AreAwaited, IsReached, moment_of}
use Rattle.ats_engine_steps.specs.declared.event.Event.{Event}
use Rattle.ats_engine_steps.specs.declared.event.Event.TheVariants.{Arrival, Eligibility, Selection}
use Rattle.ats_engine_steps.specs.declared.stage.Stage.{Stage}
use Rattle.ats_engine_steps.specs.declared.stage.Stage.TheVariants.{Over}
use Rattle.ats_engine_steps.specs.declared.turn.Turn.{Turn}
use Rattle.ats_engine_steps.specs.declared.turn.Turn.TheVariants.{Resting}
use Rattle.ats_engine_proofs.specs.Next.{IsNext, IsAfter}
use Rattle.ats_engine_proofs.proofs.Awaited.{Brings, awaited-after}
use Rattle.ats_engine_proofs.proofs.Fates.{IsHere}
use Rattle.ats_engine_proofs.proofs.Stages.{next-moment}
use Rattle.ats_engine_proofs.proofs.Events.{IsOf, is-of}

-- a moment that is before another one by time and phase is not after it
pub reached-after : (now next : Moment) → IsAfter now next → IsReached now next
reached-after now next after = record { time = after.time; phase = λ same. (let h = after.phase same in omega arith) }

-- the events that are to happen after a step, by the entries that it brings, and that of what has happened
pub awaited-at : {T : Type 0} {old : Course T} {now : Moment} {event : Event} {entries : List (Moment × Event)}
    (own : Moment) (new : Course T) (more : List (Moment × Event)) → AreAwaited old ((own, event) ∷ entries)
    → All (λ (entry : Moment × Event). IsReached now entry.0) entries → new.last ≡ now
    → Brings (moment_of old) (moment_of new) event more
    → All (λ (entry : Moment × Event). IsAfter now entry.0) more → AreAwaited new (more ++ entries)
awaited-at {T} {old} {now} {event} {entries} own new more awaited first last brings after =
    let Reached : Moment → Moment × Event → Type 0 = λ (m : Moment) (x : Moment × Event). IsReached m x.0 in
    awaited-after old new own event entries more awaited brings
    (subst (λ (m : Moment). All (Reached m) (more ++ entries)) (sym last)
    (All-append (Reached now) more entries
    (λ k d h. reached-after now (slice_index_or more k d).0 (after k d h)) first))

-- which is that of the next event
pub awaited-by : {T : Type 0} {key : T → ℕ → ℕ → ℕ} {wait : ℕ → ℕ → ℕ} {network : DeclaredNetwork}
    {releases : List Release} {old : Course T} {now : Moment} {event : Event} {entries : List (Moment × Event)}
    (new : Course T) (more : List (Moment × Event)) → IsNext key wait network releases old now event entries
    → new.last ≡ now → Brings (moment_of old) (moment_of new) event more
    → All (λ (entry : Moment × Event). IsAfter now entry.0) more → AreAwaited new (more ++ entries)
awaited-by {T} {key} {wait} {network} {releases} {old} {now} {event} {entries} new more next last brings after =
    awaited-at now new more next.holds.awaited next.first last brings after

-- the phase of the next event
pub next-of : {T : Type 0} {key : T → ℕ → ℕ → ℕ} {wait : ℕ → ℕ → ℕ} {network : DeclaredNetwork}
    {releases : List Release} {course : Course T} {now : Moment} {event : Event} {entries : List (Moment × Event)}
    → IsNext key wait network releases course now event entries → IsOf event now
next-of {T} {key} {wait} {network} {releases} {course} {now} {event} next =
    is-of course event now (next-moment next)

-- no event of a frame or a port is one of another
pub arrival-here : (row port : ℕ) → IsHere row port (Arrival row)
arrival-here row port = record {
  arrivals = λ f n same. n cc;
  eligibilities = λ f n same. cc;
  selections = λ p n same. cc;
}

pub eligibility-here : (row port : ℕ) → IsHere row port (Eligibility row)
eligibility-here row port = record {
  arrivals = λ f n same. cc;
  eligibilities = λ f n same. n cc;
  selections = λ p n same. cc;
}

pub selection-here : (row port : ℕ) → IsHere row port (Selection port)
selection-here row port = record {
  arrivals = λ f n same. cc;
  eligibilities = λ f n same. cc;
  selections = λ p n same. n cc;
}

-- the stages once that of one frame is set, and likewise the turns
pub set-here : {T : Type 0} (new : Course T) (stages : List Stage) (row : ℕ) (s : Stage) → row < length stages
    → new.stages ≡ set stages row s → stage_at new row ≡ s
set-here new stages row s within is =
    ap (λ (ss : List Stage). get_or ss row Over) is ∙ get_or-set_same stages row s Over within

pub set-elsewhere : {T : Type 0} (old new : Course T) (row : ℕ) (s : Stage) → new.stages ≡ set old.stages row s
    → (f : ℕ) → f ≢ row → stage_at new f ≡ stage_at old f
set-elsewhere old new row s is f other =
    ap (λ (ss : List Stage). get_or ss f Over) is ∙ get_or-set_other old.stages row f s Over other

pub turned-here : {T : Type 0} (new : Course T) (turns : List Turn) (port : ℕ) (t : Turn) → port < length turns
    → new.turns ≡ set turns port t → turn_at new port ≡ t
turned-here new turns port t within is =
    ap (λ (ts : List Turn). get_or ts port Resting) is ∙ get_or-set_same turns port t Resting within

pub turned-elsewhere : {T : Type 0} (old new : Course T) (port : ℕ) (t : Turn) → new.turns ≡ set old.turns port t
    → (p : ℕ) → p ≢ port → turn_at new p ≡ turn_at old p
turned-elsewhere old new port t is p other =
    ap (λ (ts : List Turn). get_or ts p Resting) is ∙ get_or-set_other old.turns port p t Resting other

-- a frame that is not over is one of the run
pub row-within : {T : Type 0} (course : Course T) (row : ℕ) (s : Stage) → stage_at course row ≡ s → s ≢ Over
    → row < length course.stages
row-within course row s is other = elim (cases_lt row (length course.stages)) as (λ _. row
    < length course.stages) [
      | inl within ↦ within
      | inr past ↦ absurd (other (sym is ∙ get_or_past course.stages row Over past))
    ]
