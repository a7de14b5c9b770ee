use Rattle.std.specs.Prelude.{◌≡◌, ◌↔◌, ◌⊎◌, ℕ, ◌<◌, ◌≤◌, List, [], length, sum_by, Contains, Some, Ok, slice_get}
use Rattle.std.specs.Prelude.{All, slice_index}
use Rattle.ats_bucket.specs.Conforming.{Conforms}
use Rattle.ats_topology.specs.Port.{port_at}
use Rattle.ats_network.specs.Bridges.{IsBridgeAt}
use Rattle.ats_network.specs.Class.{class_at, port_before}
use Rattle.ats_network.specs.Network.{DeclaredNetwork, IsNetwork}
use Rattle.ats_network.specs.Senders.{sender_at}
use Rattle.ats_trace.specs.Journey.{Travel}
use Rattle.ats_trace.specs.Clocks.{IsLegal}
use Rattle.ats_trace.specs.Run.{HasReleases, IsRunBy, releases_of}
use Rattle.ats_trace.specs.Talker.{KeepsBuckets, frames_of, read_by, talker_of}
use Rattle.ats_trace.specs.Ways.{listener_count, route_to}
use Rattle.ats_trace.specs.declared.journey.Release.{Release}
use Rattle.ats_certificate.specs.Certificate.{Holds}
use Rattle.ats_certificate.specs.declared.row.Row.{Row}
use Rattle.ats_fit.specs.Least.{IsLeastBurst}
use Rattle.ats_fit.specs.declared.measured.Measured.{Measured}
use Rattle.ats_gen.specs.Made.{AreMade, made}
use Rattle.ats_gen.specs.declared.fault.GenFault.TheVariants.{Limit, NoStream}
use Rattle.ats_bound.specs.Least.{least_certificate}
use Rattle.ats_soundness_law.specs.Sound.{IsSound}
use Rattle.ats_checker.specs.InTime.{FramesAreInTime}
use Rattle.ats_requests.specs.Laws.{IsCertified}
use Rattle.ats_buffer.specs.Buffer.{buffer_at}
use Rattle.ats_buffer.specs.Occupancy.{occupancy, row_at}
use Rattle.ats_replay.specs.Departures.{departures_text}
use Rattle.ats_replay.specs.Report.{bound_of, report_text}
use Rattle.ats_replay.specs.Summary.{summary_for}
use Rattle.ats_verdict_text.specs.Stream.{DeclaredStream}
use Rattle.ats_verdict_text.specs.Text.{accepted_text}
use Rattle.ats_command_input.specs.Input.{network_in, releases_in, rows_in}
use Rattle.ats_command_input.specs.Order.{key_of, wait_of}
use Rattle.ats_command_input.specs.declared.order.Order.{Order}
use Rattle.ats_command_input.specs.declared.order.Order.TheVariants.{Early}
use Rattle.ats_command_due.specs.Due.{told_bytes}
use Rattle.ats_command_due.specs.Generated.{least_sums}
use Rattle.ats_command_law.specs.AdmitMeaning.{IsSoundlyBounded}
use Rattle.ats_command_law.specs.BufferMeaning.{AreBuffers}
use Rattle.ats_command_law.specs.ConformBounds.{AreTextsWithin}
use Rattle.ats_command_law.specs.FitMeaning.{IsJustEnough, StreamsHaveBursts}
use Rattle.ats_command_law.specs.GenerateMeaning.{IsMadeRun}
use Rattle.ats_command_law.specs.ReplayMeaning.{AreTextsOf}
use Rattle.ats_answer_law.specs.Accepted.{EachIsContainedByClocks, EachIsInTimeByClocks, EachIsServedByClocks}
use Rattle.ats_answer_law.specs.Due.{Told}
use Rattle.ats_answer_law.specs.Meant.{IsServedInTime, IsServedInTimeTo}
use Rattle.ats_answer_law.specs.NoneMade.{IsWhyNoneMade}

-- What words come to that laws conclude of runs, bounds and texts, and no law asks for: each part of them is written
-- out in the words below, so that none can be left out.

-- this is the least burst of the frames of the stream with a number
abbrev pub IsBurstOf : DeclaredNetwork → List Release → ℕ → ℕ → Type 0
IsBurstOf network releases i burst = IsLeastBurst (sender_at network i).rate (frames_of i releases) burst

-- a burst is just enough where it is the least: with it frames conform, and with no less; and each stream has one among
-- what is measured, at its number
pub record BurstsAreMeant : Type 0 where
  pub enough : (network : DeclaredNetwork) (releases : List Release) (i burst : ℕ)
      → IsJustEnough network releases i burst → Conforms (sender_at network i).rate burst (frames_of i releases)
  pub no_less : (network : DeclaredNetwork) (releases : List Release) (i burst less : ℕ)
      → IsJustEnough network releases i burst → less < burst
      → ¬ Conforms (sender_at network i).rate less (frames_of i releases)
  pub just : (network : DeclaredNetwork) (releases : List Release) (i burst : ℕ)
      → IsJustEnough network releases i burst ↔ IsBurstOf network releases i burst
  pub each : (network : DeclaredNetwork) (releases : List Release) (measured : List Measured)
      → StreamsHaveBursts network releases measured
      ↔ ((i : ℕ) → i < length network.streams
      → (m : Measured) × (burst : ℕ) × (slice_get measured i ≡ Some m) × (m.burst_bits ≡ Some burst)
      × IsBurstOf network releases i burst)

-- none are made of a network without streams, or where one is released over 100,000 s, or where the frames have over
-- 3,200,000 ports together
pub record NoneMadeIsMeant : Type 0 where
  pub no_stream : (network : DeclaredNetwork) (seed count : ℕ)
      → IsWhyNoneMade network seed count NoStream ↔ (network.streams ≡ [])
  pub limit : (network : DeclaredNetwork) (seed count : ℕ)
      → IsWhyNoneMade network seed count Limit
      ↔ (((r : Release) × Contains (made network seed count) r × (100000000000000000 < r.at.0))
      ⊎ (3200000 < sum_by (λ (r : Release). length (sender_at network r.sender).ports) (made network seed count)))

-- bytes are told under three names, which declare this network, these rows and these releases. The rows hold and are
-- sound, and by them frames are in time; the run is a legal one in the order, with exactly the releases. The first text
-- gives the bounds and sums of the rows, the second the journeys of the run
pub record AreToldAndPrinted (told : Told) (net certificate schedule : List ℕ) (order : Order)
    (checked replayed : List ℕ) (network : DeclaredNetwork) (rows : List Row) (releases : List Release)
    (run : List Travel) : Type 0 where
  pub declares_network : network_in net (told_bytes told net) ≡ Ok network
  pub declares_rows : rows_in network.topology certificate (told_bytes told certificate) ≡ Ok rows
  pub declares_releases : releases_in network schedule (told_bytes told schedule) ≡ Ok releases
  pub rules : IsNetwork network
  pub holds : Holds network rows
  pub sound : IsSound network rows
  pub in_time : FramesAreInTime network rows
  pub in_order : IsRunBy (key_of order) (wait_of order) network run
  pub exactly : HasReleases releases run
  pub first : checked ≡ accepted_text network rows
  pub second : replayed ≡ departures_text network run

-- the bridges that ports of a route leave keep their buckets in these releases
abbrev pub AreKeptOnWay : DeclaredNetwork → List Release → List ℕ → Type 0
AreKeptOnWay network releases route =
    All (λ p. IsBridgeAt network.topology (port_at network.topology.ports p).from
    → KeepsBuckets network releases (port_at network.topology.ports p).from) route

-- in this run each frame of a stream whose own talker keeps its buckets in these releases is served and in time on its
-- way to each listener such that the bridges there keep theirs
abbrev pub AreInTimeIfKept : DeclaredNetwork → List Row → List Release → List Travel → Type 0
AreInTimeIfKept network rows releases run = (journey : Travel) → Contains run journey → (stream : DeclaredStream)
    → slice_get network.streams journey.release.sender ≡ Some stream
    → KeepsBuckets network releases (talker_of network journey.release.sender)
    → (listener : ℕ) → listener < listener_count (sender_at network journey.release.sender)
    → AreKeptOnWay network releases (route_to (sender_at network journey.release.sender) listener)
    → IsServedInTimeTo network rows stream journey listener

-- so is each frame of a stream, whichever, on its way to each listener
abbrev pub AreInTime : DeclaredNetwork → List Row → List Travel → Type 0
AreInTime network rows run = (journey : Travel) → Contains run journey → (stream : DeclaredStream)
    → slice_get network.streams journey.release.sender ≡ Some stream → IsServedInTime network rows stream journey

-- of texts of `check` and `replay`: each frame is in time whose own talker keeps its buckets, as the bridges on its way
-- do, and, where every node keeps its buckets, each frame
pub record TextsAreMeant : Type 0 where
  pub of_talkers : (told : Told) (net certificate schedule : List ℕ) (order : Order) (checked replayed : List ℕ)
      (network : DeclaredNetwork) (rows : List Row) (releases : List Release) (run : List Travel)
      → AreTextsOf told net certificate schedule order checked replayed network rows releases run
      ↔ (AreToldAndPrinted told net certificate schedule order checked replayed network rows releases run
      × AreInTimeIfKept network rows releases run)
  pub of_all : (told : Told) (net certificate schedule : List ℕ) (order : Order) (checked replayed : List ℕ)
      (network : DeclaredNetwork) (rows : List Row) (releases : List Release) (run : List Travel)
      → AreTextsWithin told net certificate schedule order checked replayed network rows releases run
      ↔ (AreToldAndPrinted told net certificate schedule order checked replayed network rows releases run
      × AreInTimeIfKept network rows releases run
      × ((node : ℕ) → KeepsBuckets network releases node)
      × AreInTime network rows run)

-- a file of these bytes declares this network, these are made releases of it, by which every node keeps its buckets,
-- and the text sums up this legal run of exactly these, in the order `early`. Where some certificate of the network
-- holds, each frame is in time by the least one; and no worst delay is above the bound that stands beside it
pub record IsMadeAndPrinted (net bytes : List ℕ) (seed count : ℕ) (text : List ℕ) (network : DeclaredNetwork)
    (releases : List Release) (run : List Travel) : Type 0 where
  pub declares : network_in net bytes ≡ Ok network
  pub rules : IsNetwork network
  pub are_made : AreMade network seed count releases
  pub keep : (node : ℕ) → KeepsBuckets network releases node
  pub in_order : IsRunBy (key_of Early) (wait_of Early) network run
  pub exactly : HasReleases releases run
  pub printed : text ≡ report_text network run (least_sums network)
  pub by_least : (rows : List Row) → Holds network rows
      → AreInTime network (least_certificate network) run
  pub worst : (sender listener bound : ℕ) → listener < listener_count (sender_at network sender)
      → bound_of network (least_sums network) sender listener ≡ Some bound
      → (summary_for network run sender listener).worst.0 ≤ bound

abbrev pub MadeRunsAreMeant : Type 0
MadeRunsAreMeant = (net bytes : List ℕ) (seed count : ℕ) (text : List ℕ) (network : DeclaredNetwork)
    (releases : List Release) (run : List Travel) → IsMadeRun net bytes seed count text network releases run
    ↔ IsMadeAndPrinted net bytes seed count text network releases run

-- where a port leaves a bridge, this keeps its buckets in a legal run, by its own clock
abbrev pub IsKeptBehind : (network : DeclaredNetwork) (run : List Travel) → IsLegal network run → ℕ → Type 0
IsKeptBehind network run legal port = IsBridgeAt network.topology (port_at network.topology.ports port).from
    → KeepsBuckets network (read_by (legal.clocks (port_at network.topology.ports port).from) (releases_of run))
    (port_at network.topology.ports port).from

-- the talker of a stream keeps its buckets, and so does the bridge that a port leaves, and the one that the port before
-- it on the stream's routes leaves
abbrev pub AreKeptTo : (network : DeclaredNetwork) (run : List Travel) → IsLegal network run → ℕ → ℕ → Type 0
AreKeptTo network run legal i port =
    KeepsBuckets network (read_by (legal.clocks (talker_of network i)) (releases_of run)) (talker_of network i)
    × IsKeptBehind network run legal port
    × ((q : ℕ) → port_before (sender_at network i) port ≡ Some q → IsKeptBehind network run legal q)

-- at no time of a legal run does a port hold more bits of a class than so many, where buckets are kept so for each
-- stream that has the class there
abbrev pub NeverHoldsMore : DeclaredNetwork → ℕ → ℕ → ℕ → Type 0
NeverHoldsMore network port class bits = (run : List Travel) → (legal : IsLegal network run)
    → ((i : ℕ) → i < length network.streams → class_at (sender_at network i) port ≡ class
    → AreKeptTo network run legal i port)
    → (time : ℕ) → occupancy network run port class time ≤ bits

-- the rows hold; there is a number for each, which is the buffer of its port and class, and no port ever holds more of
-- the class; and so it is of the buffer of each port and class of streams
pub record AreNeverExceeded (network : DeclaredNetwork) (rows : List Row) (buffers : List ℕ) : Type 0 where
  pub hold : Holds network rows
  pub one_each : length buffers ≡ length rows
  pub of_rows : (n : ℕ) → n < length rows
      → slice_index buffers n ≡ buffer_at network rows (row_at rows n).port (row_at rows n).class
  pub of_numbers : (n : ℕ) → n < length rows
      → NeverHoldsMore network (row_at rows n).port (row_at rows n).class (slice_index buffers n)
  pub of_ports : (port class : ℕ) → 1 ≤ class → NeverHoldsMore network port class (buffer_at network rows port class)

abbrev pub BuffersAreMeant : Type 0
BuffersAreMeant = (network : DeclaredNetwork) (rows : List Row) (buffers : List ℕ)
    → AreBuffers network rows buffers ↔ AreNeverExceeded network rows buffers

-- a network is soundly bounded where it is one against which there is no reason: its least certificate holds, is sound,
-- and by it frames are in time. Rows are sound exactly where frames are served and contained, and frames are in time by
-- them where each is, in every legal run, by the clocks of the nodes there
pub record SoundBoundsAreMeant : Type 0 where
  pub parts : (network : DeclaredNetwork) → IsSoundlyBounded network
      → IsNetwork network × Holds network (least_certificate network) × IsSound network (least_certificate network)
      × FramesAreInTime network (least_certificate network)
  pub exactly : (network : DeclaredNetwork) → IsSoundlyBounded network ↔ IsCertified network
  pub sound : (network : DeclaredNetwork) (rows : List Row) → IsSound network rows
      ↔ (EachIsServedByClocks network rows × EachIsContainedByClocks network rows)
  pub in_time : (network : DeclaredNetwork) (rows : List Row) → FramesAreInTime network rows
      ↔ EachIsInTimeByClocks network rows

-- of all of these
pub record ConclusionsAreMeant : Type 0 where
  pub bursts : BurstsAreMeant
  pub none_made : NoneMadeIsMeant
  pub texts : TextsAreMeant
  pub made_runs : MadeRunsAreMeant
  pub buffers : BuffersAreMeant
  pub bounds : SoundBoundsAreMeant
