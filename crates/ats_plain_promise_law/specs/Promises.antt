use Rattle.std.specs.Prelude.{◌≡◌, ◌↔◌, ℕ, ◌<◌, List, length, drop, All, Contains, Option, Some, Ok, slice_get}
use Rattle.ats_topology.specs.Port.{port_at}
use Rattle.ats_streams.specs.Stream.{DeclaredStream}
use Rattle.ats_network.specs.Bridges.{IsBridgeAt}
use Rattle.ats_network.specs.Network.{DeclaredNetwork, senders_of}
use Rattle.ats_network.specs.Sender.{stream_sender}
use Rattle.ats_network.specs.Senders.{sender_at}
use Rattle.ats_lrq.specs.Judge.{lrq_judge, spacing_rule}
use Rattle.ats_certificate.specs.declared.row.Row.{Row}
use Rattle.ats_trace.specs.Clocks.{IsLegal}
use Rattle.ats_trace.specs.Eligibility.{declared_by}
use Rattle.ats_trace.specs.Journey.{IsOfStream, Travel}
use Rattle.ats_trace.specs.Run.{IsLegalBy, releases_of}
use Rattle.ats_trace.specs.Talker.{IsDeclaredSize, KeepsBuckets, frames_of, read_by, talker_of}
use Rattle.ats_trace.specs.Ways.{listener_count, route_to, way_to}
use Rattle.ats_trace.specs.declared.journey.Release.{Release}
use Rattle.ats_soundness_law.specs.Sound.{IsContainedOn, IsServedOn}
use Rattle.ats_checker.specs.InTime.{ArrivesInTimeOn}
use Rattle.ats_verdict_text.specs.Text.{accepted_text}
use Rattle.ats_command_input.specs.Command.{Check, Command, LrqCheck}
use Rattle.ats_command_input.specs.Input.{network_in, rows_in}
use Rattle.ats_command_due.specs.Due.{IsTold, told_bytes}
use Rattle.ats_command_due.specs.Soundness.{Promises}

-- each bridge that one of these ports leaves keeps what is asked of it
abbrev pub BridgesDo : (ℕ → Type 0) → DeclaredNetwork → List ℕ → Type 0
BridgesDo Keeps network ports = All (λ p. IsBridgeAt network.topology (port_at network.topology.ports p).from
    → Keeps (port_at network.topology.ports p).from) ports

-- what is promised of a frame where nodes keep what is asked of them: if its talker does, it is served and arrives in
-- time at each listener such that the bridges that ports of the route there leave do; and whether it does or not, it is
-- contained on its way to each listener such that the bridges that ports of the route but the first leave do
pub record IsKept (Keeps : ℕ → Type 0) (network : DeclaredNetwork) (rows : List Row) (journey : Travel) : Type 0 where
  pub served : IsOfStream network journey → Keeps (talker_of network journey.release.sender)
      → (listener : ℕ) → listener < listener_count (sender_at network journey.release.sender)
      → BridgesDo Keeps network (route_to (sender_at network journey.release.sender) listener)
      → IsServedOn rows (sender_at network journey.release.sender) journey.release
      (route_to (sender_at network journey.release.sender) listener)
      (way_to (sender_at network journey.release.sender) journey listener)
  pub contained : IsOfStream network journey
      → (listener : ℕ) → listener < listener_count (sender_at network journey.release.sender)
      → BridgesDo Keeps network (drop 1 (route_to (sender_at network journey.release.sender) listener))
      → IsContainedOn rows (sender_at network journey.release.sender)
      (route_to (sender_at network journey.release.sender) listener)
      (way_to (sender_at network journey.release.sender) journey listener)
  pub in_time : (stream : DeclaredStream) → slice_get network.streams journey.release.sender ≡ Some stream
      → Keeps (talker_of network journey.release.sender)
      → (listener : ℕ) → listener < listener_count (stream_sender stream)
      → BridgesDo Keeps network (route_to (stream_sender stream) listener)
      → ArrivesInTimeOn rows stream journey.release (route_to (stream_sender stream) listener)
      (way_to (stream_sender stream) journey listener).ending

-- a node keeps its buckets by the clock of its own in a run
abbrev pub KeepsByClock : (network : DeclaredNetwork) (run : List Travel) → IsLegal network run → ℕ → Type 0
KeepsByClock network run legal node = KeepsBuckets network (read_by (legal.clocks node) (releases_of run)) node

-- a node keeps its spacing: the frames of each of its streams are as far apart as the rate asks, and its frames have
-- declared sizes
pub record KeepsSpacing (network : DeclaredNetwork) (releases : List Release) (node : ℕ) : Type 0 where
  pub streams : (i : ℕ) → i < length network.streams → talker_of network i ≡ node
      → spacing_rule (declared_by network i) (frames_of i releases)
  pub sizes : All (λ (r : Release). r.sender < length (senders_of network) → talker_of network r.sender ≡ node
      → IsDeclaredSize network r) releases

-- two files declare a network and rows, of which the text gives the bounds and sums; and by these, in each legal run of
-- the network, what is promised of each frame is kept: of groups of Asynchronous Traffic Shaping, by the clocks of
-- nodes
abbrev pub ChecksOut : (List ℕ → Option (List ℕ)) → List ℕ → List ℕ → List ℕ → Type 0
ChecksOut told net certificate text = (network : DeclaredNetwork) × (rows : List Row)
    × (network_in net (told_bytes told net) ≡ Ok network)
    × (rows_in network.topology certificate (told_bytes told certificate) ≡ Ok rows)
    × (text ≡ accepted_text network rows)
    × ((run : List Travel) (legal : IsLegal network run) (journey : Travel) → Contains run journey
    → IsKept (KeepsByClock network run legal) network rows journey)

-- and of length-rate-quotient regulators, in true time
abbrev pub LrqChecksOut : (List ℕ → Option (List ℕ)) → List ℕ → List ℕ → List ℕ → Type 0
LrqChecksOut told net certificate text = (network : DeclaredNetwork) × (rows : List Row)
    × (network_in net (told_bytes told net) ≡ Ok network)
    × (rows_in network.topology certificate (told_bytes told certificate) ≡ Ok rows)
    × (text ≡ accepted_text network rows)
    × ((run : List Travel) → IsLegalBy lrq_judge network run → (journey : Travel) → Contains run journey
    → IsKept (KeepsSpacing network (releases_of run)) network rows journey)

-- `check` and `lrq check` promise this of their text, where the bytes of both files are told; no other command promises
-- more than that its answer is due
abbrev pub PromisesArePlain : Type 0
PromisesArePlain = (told : List ℕ → Option (List ℕ)) (command : Command) (text : List ℕ) → Promises told command text
    ↔ (((net certificate : List ℕ) → command ≡ Check net certificate → IsTold told command
    → ChecksOut told net certificate text)
    × ((net certificate : List ℕ) → command ≡ LrqCheck net certificate → IsTold told command
    → LrqChecksOut told net certificate text))
