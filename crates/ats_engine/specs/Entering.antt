use Rattle.std.specs.Prelude.{◌≡◌, ◌≢◌, ℕ, ◌≤◌, List, ◌++◌, length, map, filter, All, AllPairs, IsPermutation}
use Rattle.std.specs.List.{range_with_len}
use Rattle.std.specs.Option.{ForSome}
use Rattle.ats_events.specs.Contents.{Contents}
use Rattle.ats_events.specs.declared.moment.Moment.{Moment}
use Rattle.ats_network.specs.Network.{DeclaredNetwork}
use Rattle.ats_trace.specs.Stored.{row_of}
use Rattle.ats_run_records.specs.Progress.{Progress}
use Rattle.ats_engine_steps.specs.Course.{sender_of}
use Rattle.ats_engine_steps.specs.Entries.{event_of}
use Rattle.ats_engine_steps.specs.Steps.{begins_in}
use Rattle.ats_engine_steps.specs.declared.event.Event.{Event}

-- an agenda has room for these entries, whose moments are none of its own, after the one popped last, and tell their
-- events
pub record MayEnter {O : Type 0} (before : O → Moment → Moment → Type 0) (agenda : Contents O Event)
    (more : List (Moment × Event)) : Type 0 where
  pub room : length (more ++ agenda.entries) ≤ agenda.capacity
  pub apart : AllPairs (λ (x y : Moment × Event). x.0 ≢ y.0) (more ++ agenda.entries)
  pub after : All (λ (x : Moment × Event). ForSome agenda.last (λ last. before agenda.order last x.0)) more
  pub told : All (λ (x : Moment × Event). event_of x.0 ≡ x.1) more

-- an agenda gets these entries more, and nothing else of it changes
pub record Enters {O : Type 0} (old new : Contents O Event) (more : List (Moment × Event)) : Type 0 where
  pub entries : IsPermutation (more ++ old.entries) new.entries
  pub last : new.last ≡ old.last
  pub capacity : new.capacity ≡ old.capacity
  pub order : new.order ≡ old.order

-- the rows of the legs that begin at a hop of a leg, where the copies of each frame begin at these rows
abbrev pub rows_begun : DeclaredNetwork → List ℕ → Progress → ℕ → List ℕ
rows_begun network firsts progress hop =
    map (row_of firsts progress.frame) (filter (begins_in network progress hop)
    (range_with_len 1 (length (sender_of network progress).branches)))
