use Rattle.std.specs.Prelude.{◌≡◌, ℕ, ◌<◌, ◌⊎◌, List, Option, Some, Ok, IsErr, Contains, slice_get}
use Rattle.ats_network.specs.Network.{DeclaredNetwork, IsNetwork}
use Rattle.ats_network.specs.Senders.{sender_at}
use Rattle.ats_verdict_text.specs.Stream.{DeclaredStream}
use Rattle.ats_certificate.specs.declared.row.Row.{Row}
use Rattle.ats_group.specs.Judge.{bucket_rule}
use Rattle.ats_network.specs.Sender.{stream_sender}
use Rattle.ats_soundness_law.specs.Sound.{BridgesKeep, IsServed, IsServedOn}
use Rattle.ats_checker.specs.InTime.{ArrivesInTime, ArrivesInTimeOn}
use Rattle.ats_trace.specs.Journey.{Travel}
use Rattle.ats_trace.specs.Talker.{talker_of, KeepsBuckets}
use Rattle.ats_trace.specs.Ways.{listener_count, route_to, way_to}
use Rattle.ats_trace.specs.declared.journey.Release.{Release}
use Rattle.ats_command_input.specs.Answer.{Answer}
use Rattle.ats_command_input.specs.Command.{Check, Replay}
use Rattle.ats_command_input.specs.Input.{network_in, releases_in}
use Rattle.ats_command_input.specs.declared.order.Order.{Order}
use Rattle.ats_command_due.specs.Due.{IsDueAnswer, told_bytes}
use Rattle.ats_command_law.specs.Meaning.{IsAccepted}
use Rattle.ats_command_due.specs.Replayed.{IsOneOf, IsReplay, IsReplayed, scheduled_in}
use Rattle.ats_command_input.specs.declared.status.Status.{Status}
use Rattle.ats_command_input.specs.declared.status.Status.TheVariants.{Done, Input}

-- two files of these bytes declare this network and these releases, and the text is that of this run, in this order
pub record IsRunOut (net schedule net_bytes schedule_bytes : List ℕ) (order : Order) (text : List ℕ)
    (network : DeclaredNetwork) (releases : List Release) (run : List Travel) : Type 0 where
  pub network_declared : network_in net net_bytes ≡ Ok network
  pub releases_declared : releases_in network schedule schedule_bytes ≡ Ok releases
  pub rules : IsNetwork network
  pub replay : IsReplay order network releases text run

-- the first declares this network, and the second no releases for its senders
pub record HasNoReleases (net schedule net_bytes schedule_bytes : List ℕ) (network : DeclaredNetwork) : Type 0 where
  pub network_declared : network_in net net_bytes ≡ Ok network
  pub no_releases : IsErr (releases_in network schedule schedule_bytes)

-- what an answer to `replay NET SCHEDULE ORDER` says of the bytes of both files, by its text and status; five statuses
-- never come
abbrev pub ReplaySays : List ℕ → List ℕ → List ℕ → List ℕ → Order → List ℕ → Status → Type 0
ReplaySays net schedule net_bytes schedule_bytes order text Done =
    (network : DeclaredNetwork) × (releases : List Release) × (run : List Travel)
    × IsRunOut net schedule net_bytes schedule_bytes order text network releases run
ReplaySays net schedule net_bytes schedule_bytes order text Input =
    IsErr (network_in net net_bytes)
    ⊎ ((network : DeclaredNetwork) × HasNoReleases net schedule net_bytes schedule_bytes network)
ReplaySays net schedule net_bytes schedule_bytes order text status = ⊥

-- so for all file words, orders and bytes, and each answer
abbrev pub ReplayMeans : Type 0
ReplayMeans = (net schedule net_bytes schedule_bytes : List ℕ) (order : Order) (answer : Answer)
    → IsOneOf (IsReplayed order) (scheduled_in net schedule net_bytes schedule_bytes) answer
    → ReplaySays net schedule net_bytes schedule_bytes order answer.text answer.status

-- on its way to each listener a frame is never discarded, is eligible at each next hop within the bound of the hop
-- before, and arrives within the sum of the bounds; so it does within its stream's sum for the listener and deadline
pub record IsWithinBounds (network : DeclaredNetwork) (rows : List Row) (stream : DeclaredStream) (journey : Travel)
    : Type 0 where
  pub served : IsServed rows (sender_at network journey.release.sender) journey
  pub in_time : ArrivesInTime rows stream journey

-- so it is on its way to one of the listeners
pub record IsWithinBoundsTo (network : DeclaredNetwork) (rows : List Row) (stream : DeclaredStream) (journey : Travel)
    (listener : ℕ) : Type 0 where
  pub served : IsServedOn rows (sender_at network journey.release.sender) journey.release
      (route_to (sender_at network journey.release.sender) listener)
      (way_to (sender_at network journey.release.sender) journey listener)
  pub in_time : ArrivesInTimeOn rows stream journey.release (route_to (stream_sender stream) listener)
      (way_to (stream_sender stream) journey listener).ending

-- each frame of a stream whose talker keeps its buckets in these releases is within the bounds of these rows at each
-- listener such that the bridges on the way there keep theirs too
abbrev pub DelaysAreWithin : DeclaredNetwork → List Row → List Release → List Travel → Type 0
DelaysAreWithin network rows releases run = (journey : Travel) → Contains run journey → (stream : DeclaredStream)
    → slice_get network.streams journey.release.sender ≡ Some stream
    → KeepsBuckets network releases (talker_of network journey.release.sender)
    → (listener : ℕ) → listener < listener_count (sender_at network journey.release.sender)
    → BridgesKeep bucket_rule network releases (route_to (sender_at network journey.release.sender) listener)
    → IsWithinBoundsTo network rows stream journey listener

-- a network, a certificate and a schedule are told: the first text gives the bounds and sums of these rows, the second
-- the journeys of this run, whose delays are within them
pub record AreTextsOf (told : List ℕ → Option (List ℕ)) (net certificate schedule : List ℕ) (order : Order)
    (checked replayed : List ℕ) (network : DeclaredNetwork) (rows : List Row) (releases : List Release)
    (run : List Travel) : Type 0 where
  pub accepted :
      IsAccepted net certificate (told_bytes told net) (told_bytes told certificate) checked network rows
  pub run_out :
      IsRunOut net schedule (told_bytes told net) (told_bytes told schedule) order replayed network releases run
  pub within : DelaysAreWithin network rows releases run

-- where Done is due to `check NET CERT` and to `replay NET SCHEDULE ORDER`, what the second prints of each frame of a
-- stream whose talker keeps its buckets in the schedule, as the bridges on its way do, is within what the first prints
abbrev pub ReplayKeepsBounds : Type 0
ReplayKeepsBounds = (told : List ℕ → Option (List ℕ)) (net certificate schedule : List ℕ) (order : Order)
    (checked replayed : List ℕ)
    → IsDueAnswer told (Check net certificate) (record { status = Done; text = checked })
    → IsDueAnswer told (Replay net schedule order) (record { status = Done; text = replayed })
    → (network : DeclaredNetwork) × (rows : List Row) × (releases : List Release) × (run : List Travel)
    × AreTextsOf told net certificate schedule order checked replayed network rows releases run
