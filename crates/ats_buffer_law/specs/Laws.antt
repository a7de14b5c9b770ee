use Rattle.std.specs.Prelude.{◌≡◌, ◌↔◌, ℕ, ◌<◌, ◌≤◌, List, Some, length, map, slice_index}
use Rattle.ats_topology.specs.Port.{port_at}
use Rattle.ats_network.specs.Bridges.{IsBridgeAt}
use Rattle.ats_network.specs.Class.{class_at, port_before}
use Rattle.ats_network.specs.Network.{DeclaredNetwork, IsNetwork}
use Rattle.ats_network.specs.Senders.{sender_at}
use Rattle.ats_certificate.specs.Certificate.{Holds}
use Rattle.ats_certificate.specs.declared.row.Row.{Row}
use Rattle.ats_trace.specs.Clocks.{IsLegal}
use Rattle.ats_trace.specs.Journey.{Travel}
use Rattle.ats_trace.specs.Projections.{Hop, Crossing, hops_from, crossings_from}
use Rattle.ats_trace.specs.Run.{IsIdeal, releases_of}
use Rattle.ats_trace.specs.Talker.{talker_of, KeepsBuckets}
use Rattle.ats_soundness_law.specs.Sound.{BeginAtStations}
use Rattle.ats_soundness_law.specs.TrueTime.{KeepsBucketsIn}
use Rattle.ats_buffer.specs.Occupancy.{occupancy, ArePeaks, row_at}
use Rattle.ats_buffer.specs.Buffer.{buffer_at, buffers_of}

-- where a port leaves a bridge, this keeps what is asked
abbrev pub BridgeKeeps : (ℕ → Type 0) → DeclaredNetwork → ℕ → Type 0
BridgeKeeps Keeps network port = IsBridgeAt network.topology (port_at network.topology.ports port).from
    → Keeps (port_at network.topology.ports port).from

-- the talker of a stream does, and so does the bridge that the port leaves, or that the port before it on the stream's
-- routes leaves
pub record AreKeptFor (Keeps : ℕ → Type 0) (network : DeclaredNetwork) (i port : ℕ) : Type 0 where
  pub talker : Keeps (talker_of network i)
  pub here : BridgeKeeps Keeps network port
  pub before : (q : ℕ) → port_before (sender_at network i) port ≡ Some q → BridgeKeeps Keeps network q

-- so it is for each stream that has this class at the port
abbrev pub NodesKeep : (ℕ → Type 0) → DeclaredNetwork → ℕ → ℕ → Type 0
NodesKeep Keeps network port class =
    (i : ℕ) → i < length network.streams → class_at (sender_at network i) port ≡ class → AreKeptFor Keeps network i port

-- they keep their buckets in a legal run, each by its own clock
abbrev pub NodesKeepBuckets : (network : DeclaredNetwork) (run : List Travel) → IsLegal network run → ℕ → ℕ → Type 0
NodesKeepBuckets network run legal port class = NodesKeep (KeepsBucketsIn network run legal) network port class

-- and in true time
abbrev pub NodesKeepInTrueTime : DeclaredNetwork → List Travel → ℕ → ℕ → Type 0
NodesKeepInTrueTime network run port class = NodesKeep (KeepsBuckets network (releases_of run)) network port class

-- the same in true time, where nothing is asked of bridges
abbrev pub TalkersKeepBuckets : DeclaredNetwork → List Travel → ℕ → ℕ → Type 0
TalkersKeepBuckets network run port class =
    (i : ℕ) → i < length network.streams → class_at (sender_at network i) port ≡ class
    → KeepsBuckets network (releases_of run) (talker_of network i)

-- where no bridge has frames of its own, that is as much
pub record AreAskedAlone (network : DeclaredNetwork) (run : List Travel) (port class : ℕ) : Type 0 where
  pub by_clocks : (legal : IsLegal network run)
      → NodesKeepBuckets network run legal port class ↔ TalkersKeepBuckets network run port class
  pub in_true_time : NodesKeepInTrueTime network run port class ↔ TalkersKeepBuckets network run port class

abbrev pub StationsAreAsked : Type 0
StationsAreAsked = (network : DeclaredNetwork) (run : List Travel) (port class : ℕ) → BeginAtStations network
    → AreAskedAlone network run port class

-- at every time a port holds of a class of streams at most its buffer, in each legal run, whatever the clocks of its
-- bridges show
abbrev pub BuffersHold : Type 0
BuffersHold = (network : DeclaredNetwork) (rows : List Row) (run : List Travel) (port class : ℕ) → IsNetwork network
    → Holds network rows → (legal : IsLegal network run) → 1 ≤ class
    → NodesKeepBuckets network run legal port class
    → (time : ℕ) → occupancy network run port class time ≤ buffer_at network rows port class

-- so the peak of a row is at most its buffer, in a run by true time
abbrev pub PeaksFit : Type 0
PeaksFit = (network : DeclaredNetwork) (rows : List Row) (run : List Travel) (peaks : List ℕ) → IsNetwork network
    → Holds network rows → IsIdeal network run → ArePeaks network run rows peaks → (n : ℕ) → n < length rows
    → NodesKeepInTrueTime network run (row_at rows n).port (row_at rows n).class
    → slice_index peaks n ≤ slice_index (buffers_of network rows) n

-- the transmission of a crossing, with its port
abbrev pub sent_over : Crossing → Hop
sent_over c = record { port = c.port; sent = c.sent }

-- in a legal run the transmissions are those of the crossings, one by one, so that an occupancy leaves none out
abbrev pub EachTransmissionCrosses : Type 0
EachTransmissionCrosses = (network : DeclaredNetwork) (run : List Travel) → IsLegal network run
    → hops_from network 0 run ≡ map sent_over (crossings_from network 0 run)
