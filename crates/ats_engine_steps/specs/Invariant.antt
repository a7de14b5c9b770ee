use Rattle.std.specs.Prelude.{◌≡◌, ℕ, ◌<◌, ◌≤◌, List, length, map}
use Rattle.std.specs.List.Sorted.{IsNonDecreasing}
use Rattle.ats_network.specs.Network.{DeclaredNetwork, IsNetwork}
use Rattle.ats_events.specs.declared.moment.Moment.{Moment}
use Rattle.ats_trace.specs.Releases.{HaveFewPorts}
use Rattle.ats_trace.specs.declared.journey.Release.{Release}
use Rattle.ats_trace.specs.declared.run.TheConstants.{MAX_FRAMES}
use Rattle.ats_run_records.specs.Progress.{Progress, opened, progress_at, unmoved}
use Rattle.ats_engine_steps.specs.Course.{Course, stage_at}
use Rattle.ats_engine_steps.specs.Entries.{AreAwaited}
use Rattle.ats_engine_steps.specs.Frames.{IsFrame}
use Rattle.ats_engine_steps.specs.Ports.{IsPortOf, port_state_at}
use Rattle.ats_engine_steps.specs.Paces.{IsPaced}
use Rattle.ats_engine_steps.specs.Judging.{AreGroupsOf, IsGroupOf, ArePassed}
use Rattle.ats_engine_steps.specs.Bounds.{EndsInTime}
use Rattle.ats_engine_steps.specs.declared.event.Event.{Event}

-- a leg as it was before anything happened along it
abbrev pub opened_again : Progress → Progress
opened_again progress = unmoved progress.frame progress.leg progress.release progress.room

-- the lists fit the network and the releases
pub record IsShaped {T : Type 0} (network : DeclaredNetwork) (releases : List Release) (course : Course T)
    : Type 0 where
  pub legs : map opened_again course.records ≡ (opened network releases).legs
  pub firsts : course.firsts ≡ (opened network releases).firsts
  pub in_order : IsNonDecreasing (map (λ (r : Release). r.at.0) releases)
  pub few : length releases ≤ MAX_FRAMES
  pub few_ports : HaveFewPorts network releases
  pub stages : length course.stages ≡ length course.records
  pub ports : length course.ports ≡ length network.topology.ports
  pub turns : length course.turns ≡ length network.topology.ports
  pub arrives_from : length course.arrives_from ≡ length network.topology.ports

-- what holds between two events, in parts
pub record Holds {T : Type 0} (key : T → ℕ → ℕ → ℕ) (wait : ℕ → ℕ → ℕ) (network : DeclaredNetwork)
    (releases : List Release) (course : Course T) (entries : List (Moment × Event)) : Type 0 where
  pub rules : IsNetwork network
  pub shape : IsShaped network releases course
  pub frames : (row : ℕ) → row < length course.records
      → IsFrame network course (progress_at course.records row) (stage_at course row)
  pub awaited : AreAwaited course entries
  pub ports : (port : ℕ) → port < length network.topology.ports
      → IsPortOf key network course port (port_state_at course port)
  pub paces : (port : ℕ) → port < length network.topology.ports → IsPaced wait network course port
  pub members : AreGroupsOf network course.groups
  pub groups : (port class : ℕ) → port < length network.topology.ports → 1 ≤ class → class ≤ 7
      → IsGroupOf network course port class
  pub flows : (port : ℕ) → port < length network.topology.ports → ArePassed network course port
  pub bounds : EndsInTime course entries
