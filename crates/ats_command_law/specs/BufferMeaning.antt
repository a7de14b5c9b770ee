use Rattle.std.specs.Prelude.{◌≡◌, ℕ, ◌<◌, ◌≤◌, ◌⊎◌, List, length, None, Ok, IsErr, IsOk, slice_index}
use Rattle.ats_network.specs.Network.{DeclaredNetwork, IsNetwork}
use Rattle.ats_certificate.specs.Certificate.{Holds}
use Rattle.ats_certificate.specs.declared.row.Row.{Row}
use Rattle.ats_checker.specs.declared.refusal.Refusal.{Refusal}
use Rattle.ats_trace.specs.Journey.{Travel}
use Rattle.ats_trace.specs.Clocks.{IsLegal}
use Rattle.ats_trace.specs.declared.journey.Release.{Release}
use Rattle.ats_buffer.specs.Buffer.{buffer_at, buffers_of}
use Rattle.ats_buffer.specs.Occupancy.{occupancy, row_at}
use Rattle.ats_buffer_law.specs.Laws.{NodesKeepBuckets, NodesKeepInTrueTime}
use Rattle.ats_buffer_text.specs.Text.{buffers_text}
use Rattle.ats_command_input.specs.Answer.{Answer}
use Rattle.ats_command_input.specs.Input.{network_in, releases_in, rows_in}
use Rattle.ats_command_input.specs.declared.order.Order.{Order}
use Rattle.ats_command_input.specs.declared.status.Status.{Status}
use Rattle.ats_command_input.specs.declared.status.Status.TheVariants.{Done, Input, Refused}
use Rattle.ats_command_due.specs.Due.{buffers_answer}
use Rattle.ats_command_due.specs.Held.{IsHeldRun, IsHeldText, held, held_in}
use Rattle.ats_command_due.specs.Replayed.{IsOneOf}
use Rattle.ats_command_law.specs.Meaning.{CheckSays, HasNoRows, IsRefused}

-- in each legal run of the network, at every time, a port holds of a class at most so many bits, where each node keeps
-- its buckets at which a stream begins that has the class there, and each bridge that the port, or the port before it
-- on the stream's routes, leaves
abbrev pub IsRoomAt : DeclaredNetwork → ℕ → ℕ → ℕ → Type 0
IsRoomAt network port class bits = (run : List Travel) → (legal : IsLegal network run)
    → NodesKeepBuckets network run legal port class
    → (time : ℕ) → occupancy network run port class time ≤ bits

-- these rows hold for the network, and these numbers are their buffers, one for each row: that of its port and class,
-- which is room for them. So is there room for each port and class of streams in its buffer, which is 0 where it has
-- no row
pub record AreBuffers (network : DeclaredNetwork) (rows : List Row) (buffers : List ℕ) : Type 0 where
  pub holds : Holds network rows
  pub count : length buffers ≡ length rows
  pub each : (n : ℕ) → n < length rows
      → slice_index buffers n ≡ buffer_at network rows (row_at rows n).port (row_at rows n).class
  pub printed : (n : ℕ) → n < length rows
      → IsRoomAt network (row_at rows n).port (row_at rows n).class (slice_index buffers n)
  pub everywhere : (port class : ℕ) → 1 ≤ class → IsRoomAt network port class (buffer_at network rows port class)

-- two files of these bytes declare this network and these rows, which hold for it, and the text gives their buffers
pub record AreBuffersOf (net certificate net_bytes certificate_bytes text : List ℕ) (network : DeclaredNetwork)
    (rows : List Row) : Type 0 where
  pub network_declared : network_in net net_bytes ≡ Ok network
  pub rows_declared : rows_in network.topology certificate certificate_bytes ≡ Ok rows
  pub rules : IsNetwork network
  pub buffers : AreBuffers network rows (buffers_of network rows)
  pub written : text ≡ buffers_text network.topology rows (buffers_of network rows) None

-- what an answer to `buffers NET CERT` says of the bytes of both files, by its text and status: with any other status
-- than Done the same as that answer to `check NET CERT`
abbrev pub BuffersSay : List ℕ → List ℕ → List ℕ → List ℕ → List ℕ → Status → Type 0
BuffersSay net certificate net_bytes certificate_bytes text Done =
    (network : DeclaredNetwork) × (rows : List Row)
    × AreBuffersOf net certificate net_bytes certificate_bytes text network rows
BuffersSay net certificate net_bytes certificate_bytes text status =
    CheckSays net certificate net_bytes certificate_bytes text status

-- so for all file words and bytes
abbrev pub BuffersMean : Type 0
BuffersMean = (net certificate net_bytes certificate_bytes : List ℕ)
    → BuffersSay net certificate net_bytes certificate_bytes
    (buffers_answer net certificate net_bytes certificate_bytes).text
    (buffers_answer net certificate net_bytes certificate_bytes).status

-- three files of these bytes declare this network, these rows, which hold for it, and these releases. The text gives
-- the buffers of the rows, and beside them their peaks in this run, in this order and with exactly these releases; a
-- peak is within its buffer, where those nodes keep their buckets at which a stream with that class there begins, and
-- the bridges that the port, or the port before it on the stream's routes, leaves
pub record ArePeaksOf (net certificate schedule net_bytes certificate_bytes schedule_bytes : List ℕ) (order : Order)
    (text : List ℕ) (network : DeclaredNetwork) (rows : List Row) (releases : List Release) (run : List Travel)
    (peaks : List ℕ) : Type 0 where
  pub network_declared : network_in net net_bytes ≡ Ok network
  pub rows_declared : rows_in network.topology certificate certificate_bytes ≡ Ok rows
  pub releases_declared : releases_in network schedule schedule_bytes ≡ Ok releases
  pub rules : IsNetwork network
  pub buffers : AreBuffers network rows (buffers_of network rows)
  pub held_run : IsHeldRun order (held network rows releases) text run peaks
  pub fit : (n : ℕ) → n < length rows → NodesKeepInTrueTime network run (row_at rows n).port (row_at rows n).class
      → slice_index peaks n ≤ slice_index (buffers_of network rows) n

-- the first two declare this network and these rows, and the third no releases for the network's senders
pub record HasRowsAlone (net certificate schedule net_bytes certificate_bytes schedule_bytes : List ℕ)
    (network : DeclaredNetwork) (rows : List Row) : Type 0 where
  pub network_declared : network_in net net_bytes ≡ Ok network
  pub rows_declared : rows_in network.topology certificate certificate_bytes ≡ Ok rows
  pub no_releases : IsErr (releases_in network schedule schedule_bytes)

-- the first two files declare a network and rows that are refused with this text, as by `check`, and the third releases
pub record IsRefusedLate (net certificate schedule net_bytes certificate_bytes schedule_bytes text : List ℕ)
    (network : DeclaredNetwork) (rows : List Row) (refusal : Refusal) : Type 0 where
  pub refused : IsRefused net certificate net_bytes certificate_bytes text network rows refusal
  pub releases_declared : IsOk (releases_in network schedule schedule_bytes)

-- what an answer to `buffers NET CERT SCHEDULE ORDER` says of the bytes of the three files, by its text and status;
-- four statuses never come
abbrev pub PeaksSay :
    List ℕ → List ℕ → List ℕ → List ℕ → List ℕ → List ℕ → Order → List ℕ → Status → Type 0
PeaksSay net certificate schedule net_bytes certificate_bytes schedule_bytes order text Done =
    (network : DeclaredNetwork) × (rows : List Row) × (releases : List Release) × (run : List Travel)
    × (peaks : List ℕ)
    × ArePeaksOf net certificate schedule net_bytes certificate_bytes schedule_bytes order text network rows releases
    run peaks
PeaksSay net certificate schedule net_bytes certificate_bytes schedule_bytes order text Input =
    IsErr (network_in net net_bytes)
    ⊎ (((network : DeclaredNetwork) × HasNoRows net certificate net_bytes certificate_bytes network)
    ⊎ ((network : DeclaredNetwork) × (rows : List Row)
    × HasRowsAlone net certificate schedule net_bytes certificate_bytes schedule_bytes network rows))
PeaksSay net certificate schedule net_bytes certificate_bytes schedule_bytes order text Refused =
    (network : DeclaredNetwork) × (rows : List Row) × (refusal : Refusal)
    × IsRefusedLate net certificate schedule net_bytes certificate_bytes schedule_bytes text network rows refusal
PeaksSay net certificate schedule net_bytes certificate_bytes schedule_bytes order text status = ⊥

-- so for all file words, orders and bytes, and each answer
abbrev pub PeaksMean : Type 0
PeaksMean = (net certificate schedule net_bytes certificate_bytes schedule_bytes : List ℕ) (order : Order)
    (answer : Answer)
    → IsOneOf (IsHeldText order) (held_in net certificate schedule net_bytes certificate_bytes schedule_bytes) answer
    → PeaksSay net certificate schedule net_bytes certificate_bytes schedule_bytes order answer.text answer.status
