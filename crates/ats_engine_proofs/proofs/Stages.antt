-- What the next event says of its leg's stage, or of its port's turn.
use Rattle.std.proofs.Common.{◌≡◌, ◌≢◌, ℕ, ◌<◌, List, length, get_or, Option, Some, None, sym, ap, ◌∙◌, inl, inr, arith}
use Rattle.std.proofs.lemmas.Bool.{cases_lt}
use Rattle.std.proofs.lemmas.List.{get_or_past}
use Rattle.std.proofs.lemmas.List.Elements.{All-head}
use Rattle.std.proofs.lemmas.Option.{none-some}
use Rattle.ats_num.specs.declared.time.Ps.{Ps}
use Rattle.ats_network.specs.Network.{DeclaredNetwork}
use Rattle.ats_events.specs.declared.moment.Moment.{Moment}
use Rattle.ats_trace.specs.declared.journey.Release.{Release}
use Rattle.ats_engine_steps.specs.Course.{Course, stage_at, turn_at}
use Rattle.ats_engine_steps.specs.Entries.{arrival_by, eligibility_by, eligible_moment, selection_by, moment_of}
use Rattle.ats_engine_steps.specs.declared.event.Event.{Event}
use Rattle.ats_engine_steps.specs.declared.event.Event.TheVariants.{Arrival, Eligibility, Selection}
use Rattle.ats_engine_steps.specs.declared.stage.Stage.{Stage}
use Rattle.ats_engine_steps.specs.declared.stage.Stage.TheVariants.{Apart, Coming, Due, Waiting, Over}
use Rattle.ats_engine_steps.specs.declared.turn.Turn.{Turn}
use Rattle.ats_engine_steps.specs.declared.turn.Turn.TheVariants.{Resting, Selecting}
use Rattle.ats_engine_proofs.specs.Next.{IsEligibleNow, IsNext}

-- the time of a moment, where there is one
abbrev time_of : Option Moment → Ps → Ps
time_of (Some moment) other = moment.at
time_of None other = other

-- a frame that arrives then comes then
coming-by : (row : ℕ) (stage : Stage) (now : Moment) → arrival_by row stage ≡ Some now → stage ≡ Coming now.at
coming-by row (Coming at) now is = ap (λ (m : Option Moment). Coming (time_of m at)) is
coming-by row (Due at) now is = absurd (none-some now is)
coming-by row Apart now is = absurd (none-some now is)
coming-by row Waiting now is = absurd (none-some now is)
coming-by row Over now is = absurd (none-some now is)

-- one that becomes eligible then is due then
pub due-by : (row : ℕ) (stage : Stage) (now : Moment) → eligibility_by row stage ≡ Some now → stage ≡ Due now.at
due-by row (Due at) now is = ap (λ (m : Option Moment). Due (time_of m at)) is
due-by row (Coming at) now is = absurd (none-some now is)
due-by row Apart now is = absurd (none-some now is)
due-by row Waiting now is = absurd (none-some now is)
due-by row Over now is = absurd (none-some now is)

-- a port that selects then is to select then
selecting-by : (port : ℕ) (turn : Turn) (now : Moment) → selection_by port turn ≡ Some now → turn ≡ Selecting now.at
selecting-by port (Selecting at) now is = ap (λ (m : Option Moment). Selecting (time_of m at)) is
selecting-by port Resting now is = absurd (none-some now is)

-- when the next event is to happen
pub next-moment : {T : Type 0} {key : T → ℕ → ℕ → ℕ} {wait : ℕ → ℕ → ℕ} {network : DeclaredNetwork}
    {releases : List Release} {course : Course T} {now : Moment} {event : Event} {entries : List (Moment × Event)}
    → IsNext key wait network releases course now event entries → moment_of course event ≡ Some now
next-moment {T} {key} {wait} {network} {releases} {course} {now} {event} {entries} next =
    All-head (λ (entry : Moment × Event). moment_of course entry.1 ≡ Some entry.0) (now, event) entries
    next.holds.awaited.each

-- a frame that arrives next is coming
pub next-coming : {T : Type 0} {key : T → ℕ → ℕ → ℕ} {wait : ℕ → ℕ → ℕ} {network : DeclaredNetwork}
    {releases : List Release} {course : Course T} {now : Moment} {row : ℕ} {entries : List (Moment × Event)}
    → IsNext key wait network releases course now (Arrival row) entries → stage_at course row ≡ Coming now.at
next-coming {T} {key} {wait} {network} {releases} {course} {now} {row} next =
    coming-by row (stage_at course row) now (next-moment next)

-- one that becomes eligible now is due
pub next-due : {T : Type 0} {key : T → ℕ → ℕ → ℕ} {wait : ℕ → ℕ → ℕ} {network : DeclaredNetwork}
    {releases : List Release} {course : Course T} {now : Moment} {row : ℕ} {entries : List (Moment × Event)}
    → IsEligibleNow key wait network releases course now row entries → stage_at course row ≡ Due now.at
next-due {T} {key} {wait} {network} {releases} {course} {now} {row} {entries} next =
    due-by row (stage_at course row) (eligible_moment row now.at)
    (All-head (λ (entry : Moment × Event). moment_of course entry.1 ≡ Some entry.0)
    (eligible_moment row now.at, Eligibility row) entries next.holds.awaited.each)

-- a port that selects next is to select
pub next-selecting : {T : Type 0} {key : T → ℕ → ℕ → ℕ} {wait : ℕ → ℕ → ℕ} {network : DeclaredNetwork}
    {releases : List Release} {course : Course T} {now : Moment} {port : ℕ} {entries : List (Moment × Event)}
    → IsNext key wait network releases course now (Selection port) entries → turn_at course port ≡ Selecting now.at
next-selecting {T} {key} {wait} {network} {releases} {course} {now} {port} next =
    selecting-by port (turn_at course port) now (next-moment next)

-- what is not the default is in the list
inside : {X : Type 0} (xs : List X) (k : ℕ) (d x : X) → get_or xs k d ≡ x → x ≢ d → k < length xs
inside xs k d x is other = elim (cases_lt k (length xs)) as (λ _. k < length xs) [
  | inl within ↦ within
  | inr past ↦ absurd (other (sym is ∙ get_or_past xs k d past))
]

-- a leg that is not over is one of the run
pub stage-within : {T : Type 0} (course : Course T) (row : ℕ) (stage : Stage)
    → length course.stages ≡ length course.records → stage_at course row ≡ stage → stage ≢ Over
    → row < length course.records
stage-within course row stage even is other =
    let within : row < length course.stages = inside course.stages row Over stage is other in
    omega arith

-- a port that does not rest is one of the network
pub turn-within : {T : Type 0} (course : Course T) (port : ℕ) (turn : Turn) → turn_at course port ≡ turn
    → turn ≢ Resting → port < length course.turns
turn-within course port turn is other = inside course.turns port Resting turn is other
