use Rattle.std.specs.Prelude.{◌≡◌, ◌≢◌, ℕ, ◌≤◌, ◌==◌, if◌then◌else◌, List, Option, Some, None}
use Rattle.std.specs.Prelude.{All, AllPairs, Contains, IfSome}
use Rattle.ats_num.specs.declared.time.Ps.{Ps}
use Rattle.ats_events.specs.declared.moment.Moment.{Moment}
use Rattle.ats_events.specs.declared.phase.TheConstants.{ARRIVAL, ELIGIBLE, SELECTION}
use Rattle.ats_engine_steps.specs.Course.{Course, stage_at, turn_at}
use Rattle.ats_engine_steps.specs.declared.event.Event.{Event}
use Rattle.ats_engine_steps.specs.declared.event.Event.TheVariants.{Arrival, Eligibility, Selection}
use Rattle.ats_engine_steps.specs.declared.stage.Stage.{Stage}
use Rattle.ats_engine_steps.specs.declared.stage.Stage.TheVariants.{Coming, Due}
use Rattle.ats_engine_steps.specs.declared.turn.Turn.{Turn}
use Rattle.ats_engine_steps.specs.declared.turn.Turn.TheVariants.{Selecting}

-- the moments of a leg or a port with this number
abbrev pub arrival_moment : ℕ → Ps → Moment
arrival_moment row at = record { at = at; phase = ARRIVAL; id = row }

abbrev pub eligible_moment : ℕ → Ps → Moment
eligible_moment row at = record { at = at; phase = ELIGIBLE; id = row }

abbrev pub selection_moment : ℕ → Ps → Moment
selection_moment port at = record { at = at; phase = SELECTION; id = port }

-- the moment of an event at a time
abbrev pub moment_at : Event → Ps → Moment
moment_at (Arrival row) at = arrival_moment row at
moment_at (Eligibility row) at = eligible_moment row at
moment_at (Selection port) at = selection_moment port at

-- the event that happens at a moment: its phase and its number tell it
abbrev pub event_of : Moment → Event
event_of moment =
    if moment.phase == ARRIVAL then Arrival moment.id
    else (if moment.phase == ELIGIBLE then Eligibility moment.id else Selection moment.id)

-- when a frame at this stage of a leg arrives, or becomes eligible; no more than one of them is still to happen
abbrev pub arrival_by : ℕ → Stage → Option Moment
arrival_by row (Coming at) = Some (arrival_moment row at)
arrival_by row stage = None

abbrev pub eligibility_by : ℕ → Stage → Option Moment
eligibility_by row (Due at) = Some (eligible_moment row at)
eligibility_by row stage = None

-- when a port selects
abbrev pub selection_by : ℕ → Turn → Option Moment
selection_by port (Selecting at) = Some (selection_moment port at)
selection_by port turn = None

-- when an event is to happen, if it is
abbrev pub moment_of : {T : Type 0} → Course T → Event → Option Moment
moment_of course (Arrival row) = arrival_by row (stage_at course row)
moment_of course (Eligibility row) = eligibility_by row (stage_at course row)
moment_of course (Selection port) = selection_by port (turn_at course port)

-- a moment is not before another one by its time and its phase
pub record IsReached (last next : Moment) : Type 0 where
  pub time : last.at.0 ≤ next.at.0
  pub phase : last.at.0 ≡ next.at.0 → last.phase ≤ next.phase

-- the entries of an agenda are the events that are to happen, each once, and none is before the last one
pub record AreAwaited {T : Type 0} (course : Course T) (entries : List (Moment × Event)) : Type 0 where
  pub each : All (λ (entry : Moment × Event). moment_of course entry.1 ≡ Some entry.0) entries
  pub there : (event : Event) → IfSome (moment_of course event) (λ moment. Contains entries (moment, event))
  pub apart : AllPairs (λ (x y : Moment × Event). x.1 ≢ y.1) entries
  pub reached : All (λ (entry : Moment × Event). IsReached course.last entry.0) entries
