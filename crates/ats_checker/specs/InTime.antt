use Rattle.std.specs.Prelude.{◌≡◌, ◌↔◌, ℕ, ◌+◌, ◌*◌, ◌<◌, List, All, Some, slice_get, Contains}
use Rattle.ats_num.specs.declared.time.TheConstants.{PS_PER_NS}
use Rattle.ats_streams.specs.Stream.{DeclaredStream}
use Rattle.ats_network.specs.Sender.{stream_sender}
use Rattle.ats_network.specs.Network.{DeclaredNetwork, IsNetwork}
use Rattle.ats_bucket.specs.Conforming.{Frame}
use Rattle.ats_streams.specs.declared.traffic.Declared.{Declared}
use Rattle.ats_group.specs.Judge.{Judge, ats_judge, bucket_rule}
use Rattle.ats_certificate.specs.Certificate.{IsInTime, bound_on, Holds}
use Rattle.ats_certificate.specs.declared.row.Row.{Row}
use Rattle.ats_trace.specs.Journey.{Travel}
use Rattle.ats_trace.specs.Ways.{listener_count, route_to, way_to}
use Rattle.ats_trace.specs.Talker.{talker_of}
use Rattle.ats_trace.specs.declared.journey.Release.{Release}
use Rattle.ats_trace.specs.declared.journey.Ending.{Ending}
use Rattle.ats_soundness_law.specs.Runs.{Runs, ats_runs, in_true_time}
use Rattle.ats_soundness_law.specs.Sound.{ArrivesBy, BeginAtStations, BridgesKeepIn, IsSoundBy}

-- a frame of a stream, at the end of a route, arrives within the sum of the bounds along the route since its release,
-- and within the deadline
pub record ArrivesInTimeOn (rows : List Row) (stream : DeclaredStream) (release : Release) (route : List ℕ)
    (ending : Ending) : Type 0 where
  pub sum : ArrivesBy (release.at.0 + bound_on rows stream route) ending
  pub deadline : ArrivesBy (release.at.0 + PS_PER_NS * stream.deadline_ns) ending

-- so it arrives at each listener
abbrev pub ArrivesInTime : List Row → DeclaredStream → Travel → Type 0
ArrivesInTime rows stream journey = (listener : ℕ) → listener < listener_count (stream_sender stream)
    → ArrivesInTimeOn rows stream journey.release (route_to (stream_sender stream) listener)
    (way_to (stream_sender stream) journey listener).ending

-- in each legal run each frame of a stream whose talker keeps what is asked of it arrives so at each listener such that
-- the bridges on the way there keep it too
abbrev pub FramesAreInTimeBy : Runs → DeclaredNetwork → List Row → Type 0
FramesAreInTimeBy runs network rows = (run : List Travel) → (legal : runs.legal network run) → (journey : Travel)
    → Contains run journey → (stream : DeclaredStream)
    → slice_get network.streams journey.release.sender ≡ Some stream
    → runs.keeps network run legal (talker_of network journey.release.sender)
    → (listener : ℕ) → listener < listener_count (stream_sender stream)
    → BridgesKeepIn runs network run legal (route_to (stream_sender stream) listener)
    → ArrivesInTimeOn rows stream journey.release (route_to (stream_sender stream) listener)
    (way_to (stream_sender stream) journey listener).ending

-- in those of Asynchronous Traffic Shaping, where talkers keep their buckets
abbrev pub FramesAreInTime : DeclaredNetwork → List Row → Type 0
FramesAreInTime network rows = FramesAreInTimeBy ats_runs network rows

-- the same, where nothing is asked of bridges: each frame of a stream whose talker keeps what is asked of it arrives so
abbrev pub FramesAreInTimeFromStations : Runs → DeclaredNetwork → List Row → Type 0
FramesAreInTimeFromStations runs network rows = (run : List Travel) → runs.legal network run
    → (journey : Travel) → Contains run journey → (stream : DeclaredStream)
    → slice_get network.streams journey.release.sender ≡ Some stream
    → runs.station_keeps network run (talker_of network journey.release.sender)
    → ArrivesInTime rows stream journey

-- where no bridge has frames of its own, that is as much
abbrev pub StationsAreOnTime : Runs → Type 0
StationsAreOnTime runs = (network : DeclaredNetwork) (rows : List Row) → BeginAtStations network
    → FramesAreInTimeBy runs network rows ↔ FramesAreInTimeFromStations runs network rows

-- so by true time, whichever the judge, and by Asynchronous Traffic Shaping
pub record StationsAreInTime (rule : Declared → List Frame → Type 0) : Type 0 where
  pub by_rule : (judge : Judge) → StationsAreOnTime (in_true_time judge rule)
  pub by_buckets : StationsAreOnTime ats_runs

-- by sound bounds by which each stream is in time they do
abbrev pub SoundIsOnTime : Runs → Type 0
SoundIsOnTime runs = (network : DeclaredNetwork) (rows : List Row) → IsSoundBy runs network rows
    → All (IsInTime rows) network.streams → FramesAreInTimeBy runs network rows

-- so by true time, whichever the judge and the rule, and by Asynchronous Traffic Shaping
pub record SoundIsInTime (rule : Declared → List Frame → Type 0) : Type 0 where
  pub by_rule : (judge : Judge) → SoundIsOnTime (in_true_time judge rule)
  pub by_buckets : SoundIsOnTime ats_runs

-- so they do by a certificate that holds
abbrev pub HoldingIsInTime : Type 0
HoldingIsInTime = (network : DeclaredNetwork) (rows : List Row) → IsNetwork network → Holds network rows
    → FramesAreInTime network rows

-- and where frames are in time by clocks that differ, they are in runs in which all nodes read true time
abbrev pub InTimeInTrueTime : Type 0
InTimeInTrueTime = (network : DeclaredNetwork) (rows : List Row) → IsNetwork network → FramesAreInTime network rows
    → FramesAreInTimeBy (in_true_time ats_judge bucket_rule) network rows
