use Rattle.std.specs.Prelude.{◌≡◌, ◌↔◌, ℕ, ◌+◌, ◌-◌, ◌*◌, ◌<◌, ◌≤◌, ◌^◌, ◌%◌, ◌==◌, List, ◌++◌, length, filter, map}
use Rattle.std.specs.Prelude.{bit_xor, IsPermutation, Some, slice_index, slice_index_or}
use Rattle.ats_network.specs.Class.{class_at}
use Rattle.ats_network.specs.Network.{DeclaredNetwork}
use Rattle.ats_network.specs.Senders.{sender_at}
use Rattle.ats_trace.specs.Journey.{Travel}
use Rattle.ats_trace.specs.Run.{IsRunBy}
use Rattle.ats_trace.specs.Ways.{route_to}
use Rattle.ats_trace.specs.declared.journey.Release.{Release}
use Rattle.ats_certificate.specs.declared.row.Row.{Row}
use Rattle.ats_gen.specs.Made.{AreMade, made}
use Rattle.ats_buffer.specs.Buffer.{buffers_of}
use Rattle.ats_buffer.specs.Occupancy.{ArePeaks, row_at}
use Rattle.ats_buffer_text.specs.Text.{buffers_text}
use Rattle.ats_replay.specs.Departures.{departures_text}
use Rattle.ats_replay.specs.Report.{report_text}
use Rattle.ats_witness.specs.Burst.{IsBurst}
use Rattle.ats_witness.specs.Delay.{IsGreatestDelay}
use Rattle.ats_witness.specs.Found.{AreFound, FoundDelays, IsFoundAt}
use Rattle.ats_witness.specs.Last.{last_key}
use Rattle.ats_port_capture.specs.Capture.{IsCapture}
use Rattle.ats_capture.specs.Counts.{counts_text}
use Rattle.ats_capture.specs.Traffic.{Traffic}
use Rattle.ats_command_input.specs.Order.{key_of, wait_of}
use Rattle.ats_command_input.specs.declared.order.Order.{Order}
use Rattle.ats_command_input.specs.declared.order.Order.TheVariants.{Early, Late, Mixed}
use Rattle.ats_command_due.specs.Captured.{IsCaptureReplay}
use Rattle.ats_command_due.specs.Generated.{IsReport, least_sums}
use Rattle.ats_command_due.specs.Held.{Held, IsHeldRun}
use Rattle.ats_command_due.specs.Recorded.{IsRecordedRun}
use Rattle.ats_command_due.specs.Replayed.{IsReplay}
use Rattle.ats_answer_law.specs.Runs.{IsHeldMost, KeepsOrder}

-- What the words come to that say which runs, peaks, releases and delays are due, both ways: each part of them is
-- written out, and there are no others.

-- the key and the wait of each order, of any sender, frame and spread
pub record OrdersAreMeant : Type 0 where
  pub early_key : (sender frame : ℕ) → key_of Early sender frame ≡ frame
  pub late_key : (sender frame : ℕ) → key_of Late sender frame ≡ (4294967295 - sender) * 2 ^ 32 + frame
  pub mixed_key : (n sender frame : ℕ) → key_of (Mixed n) sender frame ≡ bit_xor sender n * 2 ^ 32 + frame
  pub early_wait : (frame spread : ℕ) → wait_of Early frame spread ≡ 0
  pub late_wait : (frame spread : ℕ) → wait_of Late frame spread ≡ spread
  pub mixed_wait : (n frame spread : ℕ) → wait_of (Mixed n) frame spread ≡ bit_xor frame n % (spread + 1)

-- a run by an order whose journeys are of these releases, one of each, in their order
pub record RunsExactly (order : Order) (network : DeclaredNetwork) (releases : List Release) (run : List Travel)
    : Type 0 where
  pub in_order : KeepsOrder order network run
  pub exactly : map (λ (j : Travel). j.release) run ≡ releases

-- a number for each row, which was held at some time of a run, and more at none
pub record HaveMost (network : DeclaredNetwork) (run : List Travel) (rows : List Row) (peaks : List ℕ) : Type 0 where
  pub one_each : length peaks ≡ length rows
  pub most : (n : ℕ) → n < length rows
      → IsHeldMost network run (row_at rows n).port (row_at rows n).class (slice_index peaks n)

-- the runs whose texts are due to `replay`, `capture`, `buffers`, `record` and `generate`. Refuses a run with less than
-- all releases, or with more
pub record RunsAreMeant : Type 0 where
  pub replay : (order : Order) (network : DeclaredNetwork) (releases : List Release) (text : List ℕ)
      (run : List Travel) → IsReplay order network releases text run
      ↔ (RunsExactly order network releases run × (text ≡ departures_text network run))
  pub capture : (order : Order) (network : DeclaredNetwork) (traffic : Traffic) (text : List ℕ) (run : List Travel)
      → IsCaptureReplay order network traffic text run
      ↔ (RunsExactly order network traffic.releases run
      × (text ≡ departures_text network run ++ counts_text traffic))
  pub buffers : (order : Order) (h : Held) (text : List ℕ) (run : List Travel) (peaks : List ℕ)
      → IsHeldRun order h text run peaks
      ↔ (RunsExactly order h.network h.releases run × HaveMost h.network run h.rows peaks
      × (text ≡ buffers_text h.network.topology h.rows (buffers_of h.network h.rows) (Some peaks)))
  pub port_record : (order : Order) (network : DeclaredNetwork) (port : ℕ) (releases : List Release) (file : List ℕ)
      (run : List Travel) → IsRecordedRun order network port releases file run
      ↔ (RunsExactly order network releases run × IsCapture network run port file)
  pub generate : (network : DeclaredNetwork) (releases : List Release) (text : List ℕ) (run : List Travel)
      → IsReport network releases text run
      ↔ (RunsExactly Early network releases run × (text ≡ report_text network run (least_sums network)))

-- the peaks of rows. Refuses a row without one
abbrev pub PeaksAreMeant : Type 0
PeaksAreMeant = (network : DeclaredNetwork) (run : List Travel) (rows : List Row) (peaks : List ℕ)
    → ArePeaks network run rows peaks ↔ HaveMost network run rows peaks

-- the earlier releases in another order: by time, and those of one time as they were
pub record AreInOrder (earlier releases : List Release) : Type 0 where
  pub same : IsPermutation earlier releases
  pub by_time : (i j : ℕ) (none : Release) → i ≤ j → j < length releases
      → (slice_index_or releases i none).at.0 ≤ (slice_index_or releases j none).at.0
  pub at_once : (time : ℕ) → filter (λ (r : Release). r.at.0 == time) releases
      ≡ filter (λ (r : Release). r.at.0 == time) earlier

-- made releases: there are as many as are asked for. Refuses those of fewer frames
pub record MadeAreMeant : Type 0 where
  pub counted : (network : DeclaredNetwork) (seed count : ℕ) (releases : List Release)
      → AreMade network seed count releases → length releases ≡ count
  pub parts : (network : DeclaredNetwork) (seed count : ℕ) (releases : List Release)
      → AreMade network seed count releases ↔ AreInOrder (made network seed count) releases

-- a run of the burst at a port for a stream, in which its frames go last of those that tie, and frames arrive as late
-- as they may; and the delay is the stream's greatest for the listener in it
pub record IsShownBy (network : DeclaredNetwork) (stream listener port delay : ℕ) (run : List Travel) : Type 0 where
  pub by : IsRunBy (last_key stream) (λ frame spread. spread) network run
  pub burst : IsBurst network port (class_at (sender_at network stream) port) (map (λ (j : Travel). j.release) run)
  pub greatest : IsGreatestDelay run stream listener delay

abbrev pub IsShown : DeclaredNetwork → ℕ → ℕ → ℕ → ℕ → Type 0
IsShown network stream listener port delay =
    (run : List Travel) × IsShownBy network stream listener port delay run

-- the port at a hop of the route to a stream's listener
abbrev pub port_of_hop : DeclaredNetwork → ℕ → ℕ → ℕ → ℕ
port_of_hop network stream listener hop = slice_index (route_to (sender_at network stream) listener) hop

-- a delay for each hop of the route to a listener, which a run of the burst at the port of this hop shows; the hop is
-- the first with a greatest one; and the releases are the burst at its port
pub record AreShown (network : DeclaredNetwork) (stream listener : ℕ) (found : FoundDelays) : Type 0 where
  pub one_each : length found.delays ≡ length (route_to (sender_at network stream) listener)
  pub each : (hop : ℕ) → hop < length found.delays
      → IsShown network stream listener (port_of_hop network stream listener hop) (slice_index found.delays hop)
  pub within : found.hop < length found.delays
  pub none_longer : (hop : ℕ) → hop < length found.delays
      → slice_index found.delays hop ≤ slice_index found.delays found.hop
  pub before_shorter : (hop : ℕ) → hop < found.hop
      → slice_index found.delays hop < slice_index found.delays found.hop
  pub burst : IsBurst network (port_of_hop network stream listener found.hop)
      (class_at (sender_at network stream) (port_of_hop network stream listener found.hop)) found.releases

-- what is found. Refuses a delay in a run of other releases than the burst at its port
pub record FoundAreMeant : Type 0 where
  pub at_port : (network : DeclaredNetwork) (stream listener port delay : ℕ)
      → IsFoundAt network stream listener port delay ↔ IsShown network stream listener port delay
  pub along : (network : DeclaredNetwork) (stream listener : ℕ) (found : FoundDelays)
      → AreFound network stream listener found ↔ AreShown network stream listener found
