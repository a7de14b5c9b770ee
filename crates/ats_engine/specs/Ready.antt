use Rattle.std.specs.Prelude.{◌≡◌, ℕ, ◌+◌, ◌<◌, List, ◌∷◌, length, map, take, Some, All}
use Rattle.ats_events.specs.Contents.{Contents}
use Rattle.ats_events.specs.declared.moment.Moment.{Moment}
use Rattle.ats_trace.specs.declared.journey.Release.{Release}
use Rattle.ats_run_records.specs.Progress.{Ledger, Progress}
use Rattle.ats_engine_steps.specs.Bounds.{steps_left}
use Rattle.ats_engine_steps.specs.Invariant.{Holds}
use Rattle.ats_engine_steps.specs.Seen.{course_of}
use Rattle.ats_engine_steps.specs.declared.event.Event.{Event}
use Rattle.ats_engine.specs.declared.runner.Runner.{Runner}

-- the releases of a run's frames: those of the rows of their trunks
abbrev pub releases_in : Ledger → List Release
releases_in records = map (λ (p : Progress). p.release) (take (length records.firsts) records.legs)

-- what holds between two events, where the agenda has these entries and this capacity
pub record IsReady {T P S : Type 0} (key : T → ℕ → ℕ → ℕ) (wait : P → ℕ → ℕ → ℕ) (runner : Runner T P S)
    (entries : List (Moment × Event)) (capacity : ℕ) : Type 0 where
  pub holds : Holds key (wait runner.pace) runner.network.now (releases_in runner.state.records)
      (course_of runner.state) entries
  pub schedulers : runner.schedulers ≡ runner.network.now
  pub room : capacity ≡ length runner.state.records.legs + length runner.network.now.topology.ports

-- what holds at an event, whose entry was popped
pub record IsAtEvent {T O P S : Type 0} (key : T → ℕ → ℕ → ℕ) (wait : P → ℕ → ℕ → ℕ)
    (before : O → Moment → Moment → Type 0) (runner : Runner T P S) (agenda : Contents O Event) (now : Moment)
    (event : Event) : Type 0 where
  pub ready : IsReady key wait runner ((now, event) ∷ agenda.entries) agenda.capacity
  pub last : agenda.last ≡ Some now
  pub first : All (λ (entry : Moment × Event). before agenda.order now entry.0) agenda.entries

-- a run goes on for the same network, releases, tie and pace
pub record Follows {T P S : Type 0} (later earlier : Runner T P S) : Type 0 where
  pub network : later.network.now ≡ earlier.network.now
  pub releases : releases_in later.state.records ≡ releases_in earlier.state.records
  pub tie : later.state.tie ≡ earlier.state.tie
  pub pace : later.pace ≡ earlier.pace

-- an event was handled
pub record Goes {T O P S : Type 0} (key : T → ℕ → ℕ → ℕ) (wait : P → ℕ → ℕ → ℕ) (old new : Runner T P S)
    (before after : Contents O Event) : Type 0 where
  pub left : steps_left (course_of new.state) < steps_left (course_of old.state)
  pub ready : IsReady key wait new after.entries after.capacity
  pub follows : Follows new old
  pub capacity : after.capacity ≡ before.capacity
  pub order : after.order ≡ before.order
