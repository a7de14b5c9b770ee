-- What a moment tells of its event, and what events can be to happen.
use Rattle.std.proofs.Common.{◌≡◌, ℕ, ◌+◌, ◌-◌, ◌<◌, List, length, get_or, Option, Some, None, refl, sym, ap, ◌∙◌}
use Rattle.std.proofs.Common.{subst, inl, inr, arith}
use Rattle.std.specs.Prelude.{nat_lt, if◌then◌else◌}
use Rattle.std.proofs.lemmas.Bool.{cases_lt, lt-ltb, le-ltb, cond-true, cond-false}
use Rattle.std.proofs.lemmas.List.{get_or_past}
use Rattle.std.proofs.lemmas.Option.{none-some, same_Some}
use Rattle.ats_events.specs.declared.moment.Moment.{Moment}
use Rattle.ats_events.specs.declared.phase.TheConstants.{ARRIVAL, ELIGIBLE, SELECTION}
use Rattle.ats_engine_steps.specs.Course.{Course, stage_at, turn_at}
use Rattle.ats_engine_steps.specs.Entries.{moment_of, arrival_by, eligibility_by, selection_by, arrival_moment}
use Rattle.ats_engine_steps.specs.Entries.{eligible_moment, selection_moment}
use Rattle.ats_engine_steps.specs.declared.event.Event.{Event}
use Rattle.ats_engine_steps.specs.declared.event.Event.TheVariants.{Arrival, Eligibility, Selection}
use Rattle.ats_engine_steps.specs.declared.stage.Stage.{Stage}
use Rattle.ats_engine_steps.specs.declared.stage.Stage.TheVariants.{Apart, Coming, Due, Waiting, Over}
use Rattle.ats_engine_steps.specs.declared.turn.Turn.{Turn}
use Rattle.ats_engine_steps.specs.declared.turn.Turn.TheVariants.{Resting, Selecting}

-- the phase of an event's moment, and its number
abbrev pub phase_of : Event → ℕ
phase_of (Arrival row) = ARRIVAL
phase_of (Eligibility row) = ELIGIBLE
phase_of (Selection port) = SELECTION

abbrev pub number_of : Event → ℕ
number_of (Arrival row) = row
number_of (Eligibility row) = row
number_of (Selection port) = port

-- a moment has the phase and the number of its event
pub record IsOf (event : Event) (moment : Moment) : Type 0 where
  pub phase : moment.phase ≡ phase_of event
  pub number : moment.id ≡ number_of event

-- and so has any that is the same
same-of : (event : Event) (own moment : Moment) → IsOf event own → own ≡ moment → IsOf event moment
same-of event own moment is same = subst (IsOf event) same is

-- those that a frame's stage or a port's turn gives have
of-arrival : (row : ℕ) (stage : Stage) (moment : Moment) → arrival_by row stage ≡ Some moment
    → IsOf (Arrival row) moment
of-arrival row (Coming at) moment is =
    same-of (Arrival row) (arrival_moment row at) moment (record { phase = refl; number = refl })
    (same_Some _ moment is)
of-arrival row (Due at) moment is = absurd (none-some moment is)
of-arrival row Apart moment is = absurd (none-some moment is)
of-arrival row Waiting moment is = absurd (none-some moment is)
of-arrival row Over moment is = absurd (none-some moment is)

of-eligibility : (row : ℕ) (stage : Stage) (moment : Moment) → eligibility_by row stage ≡ Some moment
    → IsOf (Eligibility row) moment
of-eligibility row (Due at) moment is =
    same-of (Eligibility row) (eligible_moment row at) moment (record { phase = refl; number = refl })
    (same_Some _ moment is)
of-eligibility row (Coming at) moment is = absurd (none-some moment is)
of-eligibility row Apart moment is = absurd (none-some moment is)
of-eligibility row Waiting moment is = absurd (none-some moment is)
of-eligibility row Over moment is = absurd (none-some moment is)

of-selection : (port : ℕ) (turn : Turn) (moment : Moment) → selection_by port turn ≡ Some moment
    → IsOf (Selection port) moment
of-selection port (Selecting at) moment is =
    same-of (Selection port) (selection_moment port at) moment (record { phase = refl; number = refl })
    (same_Some _ moment is)
of-selection port Resting moment is = absurd (none-some moment is)

-- so have all moments of events
pub is-of : {T : Type 0} (course : Course T) (event : Event) (moment : Moment) → moment_of course event ≡ Some moment
    → IsOf event moment
is-of course (Arrival row) moment is = of-arrival row (stage_at course row) moment is
is-of course (Eligibility row) moment is = of-eligibility row (stage_at course row) moment is
is-of course (Selection port) moment is = of-selection port (turn_at course port) moment is

-- so a phase and a number tell the event
pub same-event : (a b : Event) → phase_of a ≡ phase_of b → number_of a ≡ number_of b → a ≡ b
same-event (Arrival f) (Arrival g) p n = ap Arrival n
same-event (Arrival f) (Eligibility g) p n = absurd (omega arith)
same-event (Arrival f) (Selection g) p n = absurd (omega arith)
same-event (Eligibility f) (Arrival g) p n = absurd (omega arith)
same-event (Eligibility f) (Eligibility g) p n = ap Eligibility n
same-event (Eligibility f) (Selection g) p n = absurd (omega arith)
same-event (Selection f) (Arrival g) p n = absurd (omega arith)
same-event (Selection f) (Eligibility g) p n = absurd (omega arith)
same-event (Selection f) (Selection g) p n = ap Selection n

-- the number of an event that is to happen is that of a frame or a port
abbrev pub IsEventOf : {T : Type 0} → Course T → Event → Type 0
IsEventOf course (Arrival row) = row < length course.stages
IsEventOf course (Eligibility row) = row < length course.stages
IsEventOf course (Selection port) = port < length course.turns

-- where what an element gives is more than the default gives, its place is in the list
below-length : {X : Type 0} (xs : List X) (k : ℕ) (default : X) (next : X → Option Moment) (moment : Moment)
    → next default ≡ None → next (get_or xs k default) ≡ Some moment → k < length xs
below-length xs k default next moment none some = elim (cases_lt k (length xs)) as (λ _. k < length xs) [
  | inl within ↦ within
  | inr past ↦ absurd (none-some moment (sym none ∙ sym (ap next (get_or_past xs k default past)) ∙ some))
]

-- that of an event with a moment is
pub is-within : {T : Type 0} (course : Course T) (event : Event) (moment : Moment)
    → moment_of course event ≡ Some moment → IsEventOf course event
is-within course (Arrival row) moment is = below-length course.stages row Over (arrival_by row) moment refl is
is-within course (Eligibility row) moment is =
    below-length course.stages row Over (eligibility_by row) moment refl is
is-within course (Selection port) moment is =
    below-length course.turns port Resting (selection_by port) moment refl is

-- frames and ports numbered together: the frames first
abbrev pub place_by : ℕ → Event → ℕ
place_by rows (Arrival row) = row
place_by rows (Eligibility row) = row
place_by rows (Selection port) = rows + port

-- there are as many places as frames and ports
pub place-below : {T : Type 0} (course : Course T) (event : Event) → IsEventOf course event
    → place_by (length course.stages) event < length course.stages + length course.turns
place-below course (Arrival row) within = omega arith
place-below course (Eligibility row) within = omega arith
place-below course (Selection port) within = omega arith

-- the event that a frame at a stage can have, and the one that is to happen at a place
abbrev pub event_by : ℕ → Stage → Event
event_by row (Coming at) = Arrival row
event_by row stage = Eligibility row

abbrev pub event_at : {T : Type 0} → Course T → ℕ → Event
event_at course place =
    if nat_lt place (length course.stages) then event_by place (stage_at course place)
    else Selection (place - length course.stages)

-- an event of a frame that has a moment is that one
arrival-only : (row : ℕ) (stage : Stage) (moment : Moment) → arrival_by row stage ≡ Some moment
    → event_by row stage ≡ Arrival row
arrival-only row (Coming at) moment is = refl
arrival-only row (Due at) moment is = absurd (none-some moment is)
arrival-only row Apart moment is = absurd (none-some moment is)
arrival-only row Waiting moment is = absurd (none-some moment is)
arrival-only row Over moment is = absurd (none-some moment is)

eligibility-only : (row : ℕ) (stage : Stage) (moment : Moment) → eligibility_by row stage ≡ Some moment
    → event_by row stage ≡ Eligibility row
eligibility-only row (Due at) moment is = refl
eligibility-only row (Coming at) moment is = absurd (none-some moment is)
eligibility-only row Apart moment is = absurd (none-some moment is)
eligibility-only row Waiting moment is = absurd (none-some moment is)
eligibility-only row Over moment is = absurd (none-some moment is)

-- so an event that has a moment is the one at its place
at-row : {T : Type 0} (course : Course T) (row : ℕ) → row < length course.stages
    → event_at course row ≡ event_by row (stage_at course row)
at-row course row within =
    cond-true (nat_lt row (length course.stages)) (event_by row (stage_at course row))
    (Selection (row - length course.stages)) (lt-ltb row (length course.stages) within)

pub at-place : {T : Type 0} (course : Course T) (event : Event) (moment : Moment) → moment_of course event ≡ Some moment
    → IsEventOf course event → event_at course (place_by (length course.stages) event) ≡ event
at-place course (Arrival row) moment is within =
    at-row course row within ∙ arrival-only row (stage_at course row) moment is
at-place course (Eligibility row) moment is within =
    at-row course row within ∙ eligibility-only row (stage_at course row) moment is
at-place course (Selection port) moment is within =
    let place : ℕ = length course.stages + port in
    cond-false (nat_lt place (length course.stages)) (event_by place (stage_at course place))
    (Selection (place - length course.stages)) (le-ltb place (length course.stages) (omega arith))
    ∙ ap Selection (omega arith)

-- the number and the phase of an event are small
pub number-below : {T : Type 0} (course : Course T) (event : Event) → IsEventOf course event
    → number_of event < length course.stages + length course.turns
number-below course (Arrival row) within = omega arith
number-below course (Eligibility row) within = omega arith
number-below course (Selection port) within = omega arith

pub phase-below : (event : Event) → phase_of event < 4
phase-below (Arrival row) = omega arith
phase-below (Eligibility row) = omega arith
phase-below (Selection port) = omega arith
