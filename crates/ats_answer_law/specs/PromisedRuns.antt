use Rattle.std.specs.Prelude.{◌≡◌, ◌↔◌, ℕ, ◌<◌, List, Contains, Some, slice_get}
use Rattle.ats_bucket.specs.Conforming.{Frame}
use Rattle.ats_streams.specs.declared.traffic.Declared.{Declared}
use Rattle.ats_network.specs.Network.{DeclaredNetwork}
use Rattle.ats_network.specs.Sender.{stream_sender}
use Rattle.ats_network.specs.Senders.{sender_at}
use Rattle.ats_group.specs.Judge.{bucket_rule}
use Rattle.ats_lrq.specs.Judge.{lrq_judge, spacing_rule}
use Rattle.ats_trace.specs.Clocks.{IsLegal}
use Rattle.ats_trace.specs.Journey.{IsOfStream, Travel}
use Rattle.ats_trace.specs.Run.{IsLegalBy, releases_of}
use Rattle.ats_trace.specs.Talker.{KeepsBuckets, KeepsBucketsBy, read_by, talker_of}
use Rattle.ats_trace.specs.Ways.{listener_count, route_to, way_to}
use Rattle.ats_certificate.specs.declared.row.Row.{Row}
use Rattle.ats_soundness_law.specs.Runs.{ats_runs}
use Rattle.ats_soundness_law.specs.Sound.{IsContainedOn, IsServedOn, IsSoundBy, IsSoundFromStations}
use Rattle.ats_checker.specs.InTime.{ArrivesInTimeOn, FramesAreInTimeBy, FramesAreInTimeFromStations}
use Rattle.ats_verdict_text.specs.Stream.{DeclaredStream}
use Rattle.ats_command_due.specs.Soundness.{lrq_runs}
use Rattle.ats_answer_law.specs.Accepted.{EachIsContained, EachIsInTime, EachIsServed}

-- Of which runs `check` and `lrq check` promise something, and what is asked of talkers and bridges there: written out,
-- both ways, so that there can be no fewer runs, and no more be asked.

-- in such runs each frame of a stream whose talker keeps this rule in true time is served at each listener, and nothing
-- is asked of bridges
abbrev pub EachIsServedAlone : (List Travel → Type 0) → (Declared → List Frame → Type 0) → DeclaredNetwork → List Row
    → Type 0
EachIsServedAlone IsRun rule network rows = (run : List Travel) → IsRun run → (journey : Travel)
    → Contains run journey → IsOfStream network journey
    → KeepsBucketsBy rule network (releases_of run) (talker_of network journey.release.sender)
    → (listener : ℕ) → listener < listener_count (sender_at network journey.release.sender)
    → IsServedOn rows (sender_at network journey.release.sender) journey.release
    (route_to (sender_at network journey.release.sender) listener)
    (way_to (sender_at network journey.release.sender) journey listener)

-- each frame of a stream is contained on its way to each listener, whatever its talker does
abbrev pub EachIsContainedAlone : (List Travel → Type 0) → DeclaredNetwork → List Row → Type 0
EachIsContainedAlone IsRun network rows = (run : List Travel) → IsRun run → (journey : Travel)
    → Contains run journey → IsOfStream network journey
    → (listener : ℕ) → listener < listener_count (sender_at network journey.release.sender)
    → IsContainedOn rows (sender_at network journey.release.sender)
    (route_to (sender_at network journey.release.sender) listener)
    (way_to (sender_at network journey.release.sender) journey listener)

-- and each that is served so arrives in time
abbrev pub EachIsInTimeAlone : (List Travel → Type 0) → (Declared → List Frame → Type 0) → DeclaredNetwork → List Row
    → Type 0
EachIsInTimeAlone IsRun rule network rows = (run : List Travel) → IsRun run → (journey : Travel)
    → Contains run journey → (stream : DeclaredStream)
    → slice_get network.streams journey.release.sender ≡ Some stream
    → KeepsBucketsBy rule network (releases_of run) (talker_of network journey.release.sender)
    → (listener : ℕ) → listener < listener_count (stream_sender stream)
    → ArrivesInTimeOn rows stream journey.release (route_to (stream_sender stream) listener)
    (way_to (stream_sender stream) journey listener).ending

-- those of `lrq check`: the legal ones by length-rate-quotient regulators in true time, in which a node, a station or a
-- bridge, is asked to keep its own spacing. Refuses runs in which more is asked, as of every node, or none at all
pub record LrqRunsAreMeant : Type 0 where
  pub legal : (network : DeclaredNetwork) (run : List Travel)
      → lrq_runs.legal network run ↔ IsLegalBy lrq_judge network run
  pub keeps : (network : DeclaredNetwork) (run : List Travel) (legal : IsLegalBy lrq_judge network run) (node : ℕ)
      → lrq_runs.keeps network run legal node ↔ KeepsBucketsBy spacing_rule network (releases_of run) node
  pub station_keeps : (network : DeclaredNetwork) (run : List Travel) (node : ℕ)
      → lrq_runs.station_keeps network run node ↔ KeepsBucketsBy spacing_rule network (releases_of run) node
  pub sound : (network : DeclaredNetwork) (rows : List Row) → IsSoundBy lrq_runs network rows
      ↔ (EachIsServed lrq_judge spacing_rule network rows × EachIsContained lrq_judge spacing_rule network rows)
  pub in_time : (network : DeclaredNetwork) (rows : List Row) → FramesAreInTimeBy lrq_runs network rows
      ↔ EachIsInTime lrq_judge spacing_rule network rows
  pub from_stations : (network : DeclaredNetwork) (rows : List Row) → IsSoundFromStations lrq_runs network rows
      ↔ (EachIsServedAlone (λ run. IsLegalBy lrq_judge network run) spacing_rule network rows
      × EachIsContainedAlone (λ run. IsLegalBy lrq_judge network run) network rows)
  pub in_time_from_stations : (network : DeclaredNetwork) (rows : List Row)
      → FramesAreInTimeFromStations lrq_runs network rows
      ↔ EachIsInTimeAlone (λ run. IsLegalBy lrq_judge network run) spacing_rule network rows

-- those of `check`: the legal ones by the clocks of nodes, in which a node is asked to keep its own buckets by its
-- clock, and a station in true time. What its bounds promise of them, `SoundBoundsAreMeant` says
pub record AtsRunsAreMeant : Type 0 where
  pub legal : (network : DeclaredNetwork) (run : List Travel) → ats_runs.legal network run ↔ IsLegal network run
  pub keeps : (network : DeclaredNetwork) (run : List Travel) (legal : IsLegal network run) (node : ℕ)
      → ats_runs.keeps network run legal node
      ↔ KeepsBuckets network (read_by (legal.clocks node) (releases_of run)) node
  pub station_keeps : (network : DeclaredNetwork) (run : List Travel) (node : ℕ)
      → ats_runs.station_keeps network run node ↔ KeepsBuckets network (releases_of run) node
  pub from_stations : (network : DeclaredNetwork) (rows : List Row) → IsSoundFromStations ats_runs network rows
      ↔ (EachIsServedAlone (λ run. IsLegal network run) bucket_rule network rows
      × EachIsContainedAlone (λ run. IsLegal network run) network rows)
  pub in_time_from_stations : (network : DeclaredNetwork) (rows : List Row)
      → FramesAreInTimeFromStations ats_runs network rows
      ↔ EachIsInTimeAlone (λ run. IsLegal network run) bucket_rule network rows

pub record PromisedRunsAreMeant : Type 0 where
  pub check : AtsRunsAreMeant
  pub lrq_check : LrqRunsAreMeant
