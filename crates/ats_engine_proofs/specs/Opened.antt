use Rattle.std.specs.Prelude.{◌≡◌, ℕ, ◌+◌, ◌<◌, ◌≤◌, List, [], ◌∷◌, ◌++◌, length, map, replicate, slice_index}
use Rattle.ats_topology.specs.Port.{port_at}
use Rattle.ats_network.specs.Network.{DeclaredNetwork}
use Rattle.ats_group.specs.GroupsState as groups_states
use Rattle.ats_schedulers.specs.Schedulers.{residences_of, members_of}
use Rattle.ats_transmit.specs.State as states
use Rattle.ats_events.specs.declared.moment.Moment.{Moment}
use Rattle.ats_trace.specs.declared.journey.Release.{Release}
use Rattle.ats_run_records.specs.Progress as progress
use Rattle.ats_engine_steps.specs.Course.{Course}
use Rattle.ats_engine_steps.specs.Entries.{arrival_moment}
use Rattle.ats_engine_steps.specs.Ports.{port_state_at, room_of}
use Rattle.ats_engine_steps.specs.declared.event.Event.{Event}
use Rattle.ats_engine_steps.specs.declared.event.Event.TheVariants.{Arrival}
use Rattle.ats_engine_steps.specs.declared.stage.Stage.{Stage}
use Rattle.ats_engine_steps.specs.declared.stage.Stage.TheVariants.{Apart, Coming}
use Rattle.ats_engine_steps.specs.declared.turn.Turn.TheVariants.{Resting}

-- the arrivals of frames at their own talkers, numbered from this number on: each at its release
abbrev pub released_from : ℕ → List Release → List (Moment × Event)
released_from frame [] = []
released_from frame (r ∷ releases) = (arrival_moment frame r.at, Arrival frame) ∷ released_from (frame + 1) releases

-- how far frames with these releases are then: each comes to the first port of its trunk when it is released, and has
-- not come to where its branches begin
abbrev pub stages_of : DeclaredNetwork → List Release → List Stage
stages_of network releases =
    map (λ (r : Release). Coming r.at) releases
    ++ replicate (length (progress.copies_opened network 0 releases)) Apart

-- a port that was just opened, with room for all frames that pass it
pub record IsFresh {T : Type 0} (network : DeclaredNetwork) (course : Course T) (port : ℕ) : Type 0 where
  pub rooms : List ℕ
  pub fresh : port_state_at course port
      ≡ states.opened (port_at network.topology.ports port).ps_per_bit rooms course.tie
  pub each : (class : ℕ) → class ≤ 7 → slice_index rooms class ≡ room_of network course port class

-- a run in which nothing has happened yet
pub record IsOpened {T : Type 0} (network : DeclaredNetwork) (releases : List Release) (course : Course T)
    : Type 0 where
  pub stages : course.stages ≡ stages_of network releases
  pub records : course.records ≡ (progress.opened network releases).legs
  pub firsts : course.firsts ≡ (progress.opened network releases).firsts
  pub count : length course.ports ≡ length network.topology.ports
  pub ports : (port : ℕ) → port < length network.topology.ports → IsFresh network course port
  pub turns : course.turns ≡ replicate (length network.topology.ports) Resting
  pub arrives_from : course.arrives_from ≡ replicate (length network.topology.ports) (record { 0 = 0 })
  pub groups : course.groups ≡ groups_states.opened (residences_of network) (members_of network)
  pub last : course.last ≡ record { at = record { 0 = 0 }; phase = 0; id = 0 }
