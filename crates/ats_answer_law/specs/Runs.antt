use Rattle.std.specs.Prelude.{◌≡◌, ℕ, ◌<◌, ◌≤◌, List, length, Some, slice_index}
use Rattle.ats_topology.specs.Port.{port_at}
use Rattle.ats_network.specs.Bridges.{IsBridgeAt}
use Rattle.ats_network.specs.Class.{class_at, port_before}
use Rattle.ats_network.specs.Network.{DeclaredNetwork}
use Rattle.ats_network.specs.Senders.{sender_at}
use Rattle.ats_trace.specs.Journey.{Travel}
use Rattle.ats_trace.specs.Run.{IsRunBy, releases_of}
use Rattle.ats_trace.specs.Talker.{talker_of, KeepsBuckets}
use Rattle.ats_trace.specs.declared.journey.Release.{Release}
use Rattle.ats_certificate.specs.declared.row.Row.{Row}
use Rattle.ats_buffer.specs.Buffer.{buffers_of}
use Rattle.ats_buffer.specs.Occupancy.{occupancy, row_at}
use Rattle.ats_buffer_text.specs.Text.{buffers_text}
use Rattle.ats_witness.specs.Found.{IsFoundAt, greatest_wait}
use Rattle.ats_witness.specs.Last.{last_key}
use Rattle.ats_command_input.specs.Order.{key_of, wait_of}
use Rattle.ats_command_input.specs.declared.order.Order.{Order}
use Rattle.ats_command_input.specs.declared.order.Order.TheVariants.{Early}
use Rattle.ats_capture.specs.Traffic.{Traffic}
use Rattle.ats_command_due.specs.Captured.{IsCaptureReplay}
use Rattle.ats_command_due.specs.Generated.{IsReport}
use Rattle.ats_command_due.specs.Held.{Held, IsHeldRun}
use Rattle.ats_command_due.specs.Recorded.{IsRecordedRun}
use Rattle.ats_command_due.specs.Replayed.{IsReplay}
use Rattle.ats_command_law.specs.BufferMeaning.{ArePeaksOf}

-- What the runs are whose texts are due: those by the order that is asked for.

-- by the key and the wait of an order
abbrev pub KeepsOrder : Order → DeclaredNetwork → List Travel → Type 0
KeepsOrder order network run = IsRunBy (key_of order) (wait_of order) network run

-- to `replay`, `capture`, `buffers` and `record` by the order of the call, and to `generate` by `early`; a delay that
-- `witness` prints is found in one in which each port sends the stream last of those that tie, and frames arrive as
-- late as they may
pub record RunsKeepTheirOrder : Type 0 where
  pub replay : (order : Order) (network : DeclaredNetwork) (releases : List Release) (text : List ℕ)
      (run : List Travel) → IsReplay order network releases text run → KeepsOrder order network run
  pub capture : (order : Order) (network : DeclaredNetwork) (traffic : Traffic) (text : List ℕ) (run : List Travel)
      → IsCaptureReplay order network traffic text run → KeepsOrder order network run
  pub buffers : (order : Order) (h : Held) (text : List ℕ) (run : List Travel) (peaks : List ℕ)
      → IsHeldRun order h text run peaks → KeepsOrder order h.network run
  pub record_order : (order : Order) (network : DeclaredNetwork) (port : ℕ) (releases : List Release) (file : List ℕ)
      (run : List Travel) → IsRecordedRun order network port releases file run → KeepsOrder order network run
  pub generate : (network : DeclaredNetwork) (releases : List Release) (text : List ℕ) (run : List Travel)
      → IsReport network releases text run → KeepsOrder Early network run
  pub witness : (network : DeclaredNetwork) (stream listener port delay : ℕ)
      (found : IsFoundAt network stream listener port delay)
      → IsRunBy (last_key stream) greatest_wait network found.run

-- a peak is held at some time, and more at none
pub record IsHeldMost (network : DeclaredNetwork) (run : List Travel) (port class peak : ℕ) : Type 0 where
  pub time : ℕ
  pub held : occupancy network run port class time ≡ peak
  pub no_more : (other : ℕ) → occupancy network run port class other ≤ peak

-- the text of `buffers` with a schedule gives each row's buffer, and behind it the most that was held in the run. That
-- is at most the buffer where in the run, for each stream that has the row's class at its port, the talker keeps its
-- buckets, and so do the bridges that this port, or the port before it on the stream's way, leaves, as is written out
-- here: nothing is asked of other bridges
pub record PeaksAreHeld : Type 0 where
  pub most : (order : Order) (h : Held) (text : List ℕ) (run : List Travel) (peaks : List ℕ)
      → IsHeldRun order h text run peaks → (n : ℕ) → n < length h.rows
      → IsHeldMost h.network run (row_at h.rows n).port (row_at h.rows n).class (slice_index peaks n)
  pub written : (order : Order) (h : Held) (text : List ℕ) (run : List Travel) (peaks : List ℕ)
      → IsHeldRun order h text run peaks
      → text ≡ buffers_text h.network.topology h.rows (buffers_of h.network h.rows) (Some peaks)
  pub fit : (net certificate schedule net_bytes certificate_bytes schedule_bytes : List ℕ) (order : Order)
      (text : List ℕ) (network : DeclaredNetwork) (rows : List Row) (releases : List Release) (run : List Travel)
      (peaks : List ℕ)
      → ArePeaksOf net certificate schedule net_bytes certificate_bytes schedule_bytes order text network rows releases
      run peaks
      → (n : ℕ) → n < length rows
      → ((i : ℕ) → i < length network.streams
      → class_at (sender_at network i) (row_at rows n).port ≡ (row_at rows n).class
      → KeepsBuckets network (releases_of run) (talker_of network i)
      × (IsBridgeAt network.topology (port_at network.topology.ports (row_at rows n).port).from
      → KeepsBuckets network (releases_of run) (port_at network.topology.ports (row_at rows n).port).from)
      × ((q : ℕ) → port_before (sender_at network i) (row_at rows n).port ≡ Some q
      → IsBridgeAt network.topology (port_at network.topology.ports q).from
      → KeepsBuckets network (releases_of run) (port_at network.topology.ports q).from))
      → slice_index peaks n ≤ slice_index (buffers_of network rows) n
