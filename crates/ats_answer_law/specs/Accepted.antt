use Rattle.std.specs.Prelude.{◌≡◌, ℕ, ◌<◌, List, All, Contains, Some, slice_get}
use Rattle.ats_bucket.specs.Conforming.{Frame}
use Rattle.ats_streams.specs.declared.traffic.Declared.{Declared}
use Rattle.ats_topology.specs.Port.{port_at}
use Rattle.ats_network.specs.Bridges.{IsBridgeAt}
use Rattle.ats_network.specs.Network.{DeclaredNetwork}
use Rattle.ats_network.specs.Sender.{stream_sender}
use Rattle.ats_network.specs.Senders.{sender_at}
use Rattle.ats_certificate.specs.declared.row.Row.{Row}
use Rattle.ats_trace.specs.Clocks.{IsLegal}
use Rattle.ats_trace.specs.Journey.{Travel, IsOfStream}
use Rattle.ats_trace.specs.Run.{IsLegalBy, releases_of}
use Rattle.ats_trace.specs.Talker.{talker_of, KeepsBuckets, KeepsBucketsBy, read_by}
use Rattle.ats_trace.specs.Ways.{listener_count, route_to, way_to}
use Rattle.ats_trace.specs.declared.journey.Release.{Release}
use Rattle.ats_soundness_law.specs.Sound.{IsContainedOn, IsServedOn, all_but_first}
use Rattle.ats_checker.specs.InTime.{ArrivesInTimeOn}
use Rattle.ats_verdict_text.specs.Stream.{DeclaredStream}
use Rattle.ats_verdict_text.specs.Text.{accepted_text}
use Rattle.ats_group.specs.Judge.{Judge}
use Rattle.ats_lrq.specs.Judge.{lrq_judge, spacing_rule}
use Rattle.ats_command_due.specs.Soundness.{IsSoundText}
use Rattle.ats_command_law.specs.LrqMeaning.{IsLrqAccepted}

-- What a text that is promised to be sound promises, part by part. What is asked of talkers and of bridges is written
-- out, so that no word can ask more.

-- each bridge that one of these ports leaves keeps this rule, where all nodes read true time
abbrev pub KeepOn : (Declared → List Frame → Type 0) → DeclaredNetwork → List Release → List ℕ → Type 0
KeepOn rule network releases ports =
    All (λ p. IsBridgeAt network.topology (port_at network.topology.ports p).from
    → KeepsBucketsBy rule network releases (port_at network.topology.ports p).from) ports

-- each frame of a stream whose talker keeps this rule is served at each listener such that the bridges that ports of
-- the route there leave keep it
abbrev pub EachIsServed : Judge → (Declared → List Frame → Type 0) → DeclaredNetwork → List Row → Type 0
EachIsServed judge rule network rows = (run : List Travel) → IsLegalBy judge network run → (journey : Travel)
    → Contains run journey → IsOfStream network journey
    → KeepsBucketsBy rule network (releases_of run) (talker_of network journey.release.sender)
    → (listener : ℕ) → listener < listener_count (sender_at network journey.release.sender)
    → KeepOn rule network (releases_of run) (route_to (sender_at network journey.release.sender) listener)
    → IsServedOn rows (sender_at network journey.release.sender) journey.release
    (route_to (sender_at network journey.release.sender) listener)
    (way_to (sender_at network journey.release.sender) journey listener)

-- each frame of a stream is contained, whatever its talker does, on its way to each listener such that the bridges that
-- ports of the route but the first leave keep it
abbrev pub EachIsContained : Judge → (Declared → List Frame → Type 0) → DeclaredNetwork → List Row → Type 0
EachIsContained judge rule network rows = (run : List Travel) → IsLegalBy judge network run → (journey : Travel)
    → Contains run journey → IsOfStream network journey
    → (listener : ℕ) → listener < listener_count (sender_at network journey.release.sender)
    → KeepOn rule network (releases_of run)
    (all_but_first (route_to (sender_at network journey.release.sender) listener))
    → IsContainedOn rows (sender_at network journey.release.sender)
    (route_to (sender_at network journey.release.sender) listener)
    (way_to (sender_at network journey.release.sender) journey listener)

-- each frame that is served so arrives in time
abbrev pub EachIsInTime : Judge → (Declared → List Frame → Type 0) → DeclaredNetwork → List Row → Type 0
EachIsInTime judge rule network rows = (run : List Travel) → IsLegalBy judge network run → (journey : Travel)
    → Contains run journey → (stream : DeclaredStream)
    → slice_get network.streams journey.release.sender ≡ Some stream
    → KeepsBucketsBy rule network (releases_of run) (talker_of network journey.release.sender)
    → (listener : ℕ) → listener < listener_count (stream_sender stream)
    → KeepOn rule network (releases_of run) (route_to (stream_sender stream) listener)
    → ArrivesInTimeOn rows stream journey.release (route_to (stream_sender stream) listener)
    (way_to (stream_sender stream) journey listener).ending

-- The same of the groups of Asynchronous Traffic Shaping, each of which goes by its bridge's clock, and of nodes that
-- keep their buckets, each by its own clock: the releases conform at the times that the clock shows.

abbrev pub KeepByClocks : (network : DeclaredNetwork) (run : List Travel) → IsLegal network run → List ℕ → Type 0
KeepByClocks network run legal ports =
    All (λ p. IsBridgeAt network.topology (port_at network.topology.ports p).from
    → KeepsBuckets network (read_by (legal.clocks (port_at network.topology.ports p).from) (releases_of run))
    (port_at network.topology.ports p).from) ports

abbrev pub EachIsServedByClocks : DeclaredNetwork → List Row → Type 0
EachIsServedByClocks network rows = (run : List Travel) → (legal : IsLegal network run) → (journey : Travel)
    → Contains run journey → IsOfStream network journey
    → KeepsBuckets network
    (read_by (legal.clocks (talker_of network journey.release.sender)) (releases_of run))
    (talker_of network journey.release.sender)
    → (listener : ℕ) → listener < listener_count (sender_at network journey.release.sender)
    → KeepByClocks network run legal (route_to (sender_at network journey.release.sender) listener)
    → IsServedOn rows (sender_at network journey.release.sender) journey.release
    (route_to (sender_at network journey.release.sender) listener)
    (way_to (sender_at network journey.release.sender) journey listener)

abbrev pub EachIsContainedByClocks : DeclaredNetwork → List Row → Type 0
EachIsContainedByClocks network rows = (run : List Travel) → (legal : IsLegal network run) → (journey : Travel)
    → Contains run journey → IsOfStream network journey
    → (listener : ℕ) → listener < listener_count (sender_at network journey.release.sender)
    → KeepByClocks network run legal
    (all_but_first (route_to (sender_at network journey.release.sender) listener))
    → IsContainedOn rows (sender_at network journey.release.sender)
    (route_to (sender_at network journey.release.sender) listener)
    (way_to (sender_at network journey.release.sender) journey listener)

abbrev pub EachIsInTimeByClocks : DeclaredNetwork → List Row → Type 0
EachIsInTimeByClocks network rows = (run : List Travel) → (legal : IsLegal network run) → (journey : Travel)
    → Contains run journey → (stream : DeclaredStream)
    → slice_get network.streams journey.release.sender ≡ Some stream
    → KeepsBuckets network
    (read_by (legal.clocks (talker_of network journey.release.sender)) (releases_of run))
    (talker_of network journey.release.sender)
    → (listener : ℕ) → listener < listener_count (stream_sender stream)
    → KeepByClocks network run legal (route_to (stream_sender stream) listener)
    → ArrivesInTimeOn rows stream journey.release (route_to (stream_sender stream) listener)
    (way_to (stream_sender stream) journey listener).ending

-- to `check`: of the groups of Asynchronous Traffic Shaping, and of talkers that keep their buckets
pub record SoundTextsAreSound : Type 0 where
  pub served : (network : DeclaredNetwork) (rows : List Row) (text : List ℕ) → IsSoundText network rows text
      → EachIsServedByClocks network rows
  pub contained : (network : DeclaredNetwork) (rows : List Row) (text : List ℕ) → IsSoundText network rows text
      → EachIsContainedByClocks network rows
  pub in_time : (network : DeclaredNetwork) (rows : List Row) (text : List ℕ) → IsSoundText network rows text
      → EachIsInTimeByClocks network rows
  pub written : (network : DeclaredNetwork) (rows : List Row) (text : List ℕ) → IsSoundText network rows text
      → text ≡ accepted_text network rows

-- to `lrq check`: of length-rate-quotient regulators, and of spaced talkers, in the network as it is declared
pub record LrqTextsAreSound : Type 0 where
  pub served : (net certificate net_bytes rows_bytes text : List ℕ) (network : DeclaredNetwork) (rows : List Row)
      → IsLrqAccepted net certificate net_bytes rows_bytes text network rows
      → EachIsServed lrq_judge spacing_rule network rows
  pub contained : (net certificate net_bytes rows_bytes text : List ℕ) (network : DeclaredNetwork) (rows : List Row)
      → IsLrqAccepted net certificate net_bytes rows_bytes text network rows
      → EachIsContained lrq_judge spacing_rule network rows
  pub in_time : (net certificate net_bytes rows_bytes text : List ℕ) (network : DeclaredNetwork) (rows : List Row)
      → IsLrqAccepted net certificate net_bytes rows_bytes text network rows
      → EachIsInTime lrq_judge spacing_rule network rows
  pub written : (net certificate net_bytes rows_bytes text : List ℕ) (network : DeclaredNetwork) (rows : List Row)
      → IsLrqAccepted net certificate net_bytes rows_bytes text network rows → text ≡ accepted_text network rows

pub record PromisesAreSound : Type 0 where
  pub check : SoundTextsAreSound
  pub lrq_check : LrqTextsAreSound
