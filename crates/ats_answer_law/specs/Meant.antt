use Rattle.std.specs.Prelude.{◌≡◌, ◌↔◌, ℕ, ◌<◌, ◌≤◌, List, length, map, String, string_bytes, All, Contains, Some}
use Rattle.std.specs.Prelude.{slice_get}
use Rattle.std.specs.declared.alloc.Global.{Global}
use Rattle.ats_num.specs.Wire.{bits_of}
use Rattle.ats_io.specs.Outside.{Continues, Rose}
use Rattle.ats_bucket.specs.Conforming.{Conforms}
use Rattle.ats_streams.specs.Traffic.{is_declared_size}
use Rattle.ats_group.specs.Group.{Offer}
use Rattle.ats_group.specs.Judge.{ats_judge}
use Rattle.ats_group_law.specs.Regulator.{passed_by}
use Rattle.ats_network.specs.Class.{class_at, port_before}
use Rattle.ats_topology.specs.Port.{port_at}
use Rattle.ats_network.specs.Bridges.{IsBridgeAt}
use Rattle.ats_network.specs.Network.{DeclaredNetwork}
use Rattle.ats_network.specs.Sender.{stream_sender}
use Rattle.ats_network.specs.Senders.{sender_at}
use Rattle.ats_trace.specs.Eligibility.{declared_by, residence_of_groups, scheduled_by}
use Rattle.ats_trace.specs.Journey.{Travel}
use Rattle.ats_trace.specs.Clocks.{IsLegal}
use Rattle.ats_trace.specs.Run.{releases_of}
use Rattle.ats_trace.specs.Talker.{talker_of, KeepsBuckets, read_by}
use Rattle.ats_trace.specs.Ways.{listener_count, route_to, way_to}
use Rattle.ats_trace.specs.declared.journey.Release.{Release}
use Rattle.ats_certificate.specs.Certificate.{Holds}
use Rattle.ats_certificate.specs.declared.row.Row.{Row}
use Rattle.ats_bound.specs.Least.{least_certificate}
use Rattle.ats_soundness_law.specs.Sound.{IsServed, IsServedOn}
use Rattle.ats_checker.specs.InTime.{ArrivesInTime, ArrivesInTimeOn}
use Rattle.ats_lrq.specs.Judge.{lrq_judge}
use Rattle.ats_shape.specs.Shape.{DeclaredShape}
use Rattle.ats_shape.specs.Verdicts.{declared_in, offer_of}
use Rattle.ats_settings.specs.declared.setting.Setting.{Setting}
use Rattle.ats_settings_law.specs.Laws.{IsKnown, IsNamed, IsNotShort}
use Rattle.ats_buffer.specs.Occupancy.{occupancy}
use Rattle.ats_replay.specs.Report.{bound_of}
use Rattle.ats_replay.specs.Summary.{summary_for}
use Rattle.ats_verdict_text.specs.Stream.{DeclaredStream}
use Rattle.ats_command_input.specs.Command.{Command, command_of, file_words}
use Rattle.ats_command_input.specs.Named.{named, texts_of}
use Rattle.ats_command_due.specs.Calls.{IsCalm, ReadRose}
use Rattle.ats_command_due.specs.Due.{Reaches}
use Rattle.ats_command_due.specs.Generated.{least_sums}
use Rattle.ats_command_law.specs.BufferMeaning.{IsRoomAt}
use Rattle.ats_command_law.specs.CaptureBounds.{CapturedAreWithin}
use Rattle.ats_command_law.specs.ConformBounds.{AllDelaysAreWithin}
use Rattle.ats_command_law.specs.GenerateMeaning.{AreWithinLeast, EachWorstIsWithin}
use Rattle.ats_command_law.specs.LrqMeaning.{EachConforms}
use Rattle.ats_command_law.specs.ReplayMeaning.{DelaysAreWithin}
use Rattle.ats_command_law.specs.SettingsMeaning.{JudgeAlike}
use Rattle.ats_answer_law.specs.Due.{Told}

-- What the words come to in which the laws of `ats_command_law` say what follows, and the clauses of `ats` which files
-- and words they speak of. It is said in the words below them, so that none of them can mean less.

-- a frame of a stream is served by rows on its way to each listener, and arrives at each in time
abbrev pub IsServedInTime : DeclaredNetwork → List Row → DeclaredStream → Travel → Type 0
IsServedInTime network rows stream journey =
    IsServed rows (sender_at network journey.release.sender) journey × ArrivesInTime rows stream journey

-- so it is on its way to one of them
abbrev pub IsServedInTimeTo : DeclaredNetwork → List Row → DeclaredStream → Travel → ℕ → Type 0
IsServedInTimeTo network rows stream journey listener =
    IsServedOn rows (sender_at network journey.release.sender) journey.release
    (route_to (sender_at network journey.release.sender) listener)
    (way_to (sender_at network journey.release.sender) journey listener)
    × ArrivesInTimeOn rows stream journey.release (route_to (stream_sender stream) listener)
    (way_to (stream_sender stream) journey listener).ending

-- of delays: each frame whose own talker keeps its buckets is within the bounds of rows on its way to each listener
-- such that the bridges there keep theirs; by the releases of a capture, nothing is asked of bridges; so is each frame,
-- whichever, and by the least bounds where some certificate holds; and the worst delay to each listener is within the
-- bound to it
pub record DelaysAreMeant : Type 0 where
  pub of_talkers : (network : DeclaredNetwork) (rows : List Row) (releases : List Release) (run : List Travel)
      → DelaysAreWithin network rows releases run
      → (journey : Travel) → Contains run journey
      → (stream : DeclaredStream) → slice_get network.streams journey.release.sender ≡ Some stream
      → KeepsBuckets network releases (talker_of network journey.release.sender)
      → (listener : ℕ) → listener < listener_count (sender_at network journey.release.sender)
      → All (λ p. IsBridgeAt network.topology (port_at network.topology.ports p).from
      → KeepsBuckets network releases (port_at network.topology.ports p).from)
      (route_to (sender_at network journey.release.sender) listener)
      → IsServedInTimeTo network rows stream journey listener
  pub of_captured : (network : DeclaredNetwork) (rows : List Row) (releases : List Release) (run : List Travel)
      → CapturedAreWithin network rows releases run
      → (journey : Travel) → Contains run journey
      → (stream : DeclaredStream) → slice_get network.streams journey.release.sender ≡ Some stream
      → KeepsBuckets network releases (talker_of network journey.release.sender)
      → IsServedInTime network rows stream journey
  pub of_all : (network : DeclaredNetwork) (rows : List Row) (run : List Travel) → AllDelaysAreWithin network rows run
      → (journey : Travel) → Contains run journey
      → (stream : DeclaredStream) → slice_get network.streams journey.release.sender ≡ Some stream
      → IsServedInTime network rows stream journey
  pub by_least : (network : DeclaredNetwork) (run : List Travel) → AreWithinLeast network run
      → (rows : List Row) → Holds network rows
      → (journey : Travel) → Contains run journey
      → (stream : DeclaredStream) → slice_get network.streams journey.release.sender ≡ Some stream
      → IsServedInTime network (least_certificate network) stream journey
  pub worst : (network : DeclaredNetwork) (run : List Travel) → EachWorstIsWithin network run
      → (sender listener bound : ℕ) → listener < listener_count (sender_at network sender)
      → bound_of network (least_sums network) sender listener ≡ Some bound
      → (summary_for network run sender listener).worst.0 ≤ bound

-- of bridges: a port has room for what it holds of a class where the talkers of this class keep their buckets, and so
-- do the bridges that the port, or the port before it on a stream's way, leaves, as is written out here; bridges
-- that are set alike judge the frames of a group alike, and let the same sizes pass; and what a regulator of the other
-- kind lets through conforms to the rate and the longest frame
pub record BridgesAreMeant : Type 0 where
  pub room : (network : DeclaredNetwork) (port class bits : ℕ) → IsRoomAt network port class bits
      → (run : List Travel) → (legal : IsLegal network run)
      → ((i : ℕ) → i < length network.streams → class_at (sender_at network i) port ≡ class
      → KeepsBuckets network (read_by (legal.clocks (talker_of network i)) (releases_of run)) (talker_of network i)
      × (IsBridgeAt network.topology (port_at network.topology.ports port).from
      → KeepsBuckets network (read_by (legal.clocks (port_at network.topology.ports port).from) (releases_of run))
      (port_at network.topology.ports port).from)
      × ((q : ℕ) → port_before (sender_at network i) port ≡ Some q
      → IsBridgeAt network.topology (port_at network.topology.ports q).from
      → KeepsBuckets network (read_by (legal.clocks (port_at network.topology.ports q).from) (releases_of run))
      (port_at network.topology.ports q).from))
      → (time : ℕ) → occupancy network run port class time ≤ bits
  pub groups : (one other : DeclaredNetwork) (settings : List Setting) → JudgeAlike one other settings
      → (port : ℕ) (offers : List Offer) → All (IsKnown one other settings port) offers
      → ats_judge (scheduled_by one port) (residence_of_groups one port) offers
      ≡ ats_judge (scheduled_by other port) (residence_of_groups other port) offers
  pub sizes : (one other : DeclaredNetwork) (settings : List Setting) → JudgeAlike one other settings
      → (port : ℕ) (offer : Offer) → IsNamed settings offer.member port
      → IsNotShort one offer → IsNotShort other offer
      → is_declared_size (declared_by one offer.member) offer.octets
      ≡ is_declared_size (declared_by other offer.member) offer.octets
  pub regulated : (shape : DeclaredShape) → EachConforms shape
      → (stream : ℕ) → stream < length shape.streams
      → Conforms (declared_in shape.streams stream).rate (bits_of (declared_in shape.streams stream).max_octets)
      (passed_by lrq_judge (declared_in shape.streams) shape.residence_ns (map offer_of shape.frames) stream)

-- of files and words: the outside, whose states have numbers here, goes on exactly where it tells the same under each
-- name, and no count of faults fell, of whichever name; a fault came at a file that the command comes to, and that its
-- words name; all is calm exactly where no count of a file that they name rose, whatever it was before; and the words
-- of the program are those of the command table, byte for byte
pub record FilesAreMeant : Type 0 where
  pub goes_on : (told : ℕ → Told) (faults : ℕ → List ℕ → ℕ) (old new : ℕ) → Continues told faults old new
      ↔ ((told new ≡ told old) × ((name : List ℕ) → faults old name ≤ faults new name))
  pub risen : (told : Told) (command : Command) (old new : List ℕ → ℕ) → ReadRose told command old new
      → (name : List ℕ) × Reaches told command name × Rose (old name) (new name)
  pub reached : (told : Told) (command : Command) (name : List ℕ) → Reaches told command name
      → Contains (file_words command) name
  pub calm : (command : Command) (old new : List ℕ → ℕ) → IsCalm command old new
      ↔ ((name : List ℕ) → Contains (file_words command) name → ¬ Rose (old name) (new name))
  pub texts : (words : List (String Global)) → texts_of words ≡ map (λ (word : String Global). string_bytes word) words
  pub words_name : (words : List (String Global))
      → named words ≡ command_of (map (λ (word : String Global). string_bytes word) words)

-- of all of these
pub record NothingLessIsMeant : Type 0 where
  pub delays : DelaysAreMeant
  pub bridges : BridgesAreMeant
  pub files : FilesAreMeant
