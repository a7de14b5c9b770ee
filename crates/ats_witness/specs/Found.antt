use Rattle.std.specs.Prelude.{ℕ, ◌≤◌, List, length, slice_index_or}
use Rattle.std.specs.List.{AllZip, IsFirstMaxByKey}
use Rattle.ats_streams.specs.Branches.{leg_at, routes_of}
use Rattle.ats_streams.specs.Stream.{DeclaredStream}
use Rattle.ats_network.specs.Network.{DeclaredNetwork}
use Rattle.ats_network.specs.Senders.{sender_at}
use Rattle.ats_network.specs.Edits.{no_stream}
use Rattle.ats_certificate.specs.Certificate.{bound_on}
use Rattle.ats_certificate.specs.declared.row.Row.{Row}
use Rattle.ats_bound.specs.Least.{least_certificate}
use Rattle.ats_trace.specs.Journey.{Travel}
use Rattle.ats_trace.specs.Run.{IsRunBy, releases_of}
use Rattle.ats_trace.specs.Ways.{route_to}
use Rattle.ats_trace.specs.declared.journey.Release.{Release}
use Rattle.ats_witness.specs.Burst.{IsBurstFor, port_on_route}
use Rattle.ats_witness.specs.Delay.{IsGreatestDelay}
use Rattle.ats_witness.specs.Last.{last_key}

-- a frame waits behind a port for all of the port's spread
abbrev pub greatest_wait : ℕ → ℕ → ℕ
greatest_wait frame spread = spread

-- a run of the burst at a port for a stream: it has exactly these releases, each port sends the stream's frames last of
-- those that tie, and behind each port each frame arrives as late as it may
pub record IsBurstRun (network : DeclaredNetwork) (stream port : ℕ) (run : List Travel) : Type 0 where
  pub by : IsRunBy (last_key stream) greatest_wait network run
  pub burst : IsBurstFor network stream port (releases_of run)

-- the delay that is found of a stream for a listener at a port: its greatest delay for this listener in such a run
pub record IsFoundAt (network : DeclaredNetwork) (stream listener port delay : ℕ) : Type 0 where
  pub run : List Travel
  pub of_burst : IsBurstRun network stream port run
  pub greatest : IsGreatestDelay run stream listener delay

-- the sum of the bounds along the route to a stream's listener with this number
abbrev pub bound_for : List Row → DeclaredStream → ℕ → ℕ
bound_for rows stream listener = bound_on rows stream (leg_at (routes_of stream.ports stream.branches) listener)

-- a delay is at most the sum of the least bounds along the route to the listener of a stream, both by their numbers
abbrev pub IsWithinBound : DeclaredNetwork → ℕ → ℕ → ℕ → Type 0
IsWithinBound network stream listener delay =
    delay ≤ bound_for (least_certificate network) (slice_index_or network.streams stream no_stream) listener

-- the first of the greatest of some numbers stands at this place
abbrev pub IsFirstGreatest : List ℕ → ℕ → Type 0
IsFirstGreatest numbers place = IsFirstMaxByKey (λ n. n) numbers (length numbers) place

-- what is found of a stream for a listener: a delay for each port of the route there, a hop, and releases
pub record FoundDelays : Type 0 where
  pub delays : List ℕ
  pub hop : ℕ
  pub releases : List Release

abbrev pub found_delays : List ℕ → ℕ → List Release → FoundDelays
found_delays delays hop releases = record { delays = delays; hop = hop; releases = releases }

-- the delay found at each of these ports, in order; the first hop with a greatest delay; and the releases of the
-- burst at the port of this hop
pub record AreFound (network : DeclaredNetwork) (stream listener : ℕ) (found : FoundDelays) : Type 0 where
  pub each : AllZip (IsFoundAt network stream listener) (route_to (sender_at network stream) listener) found.delays
  pub first : IsFirstGreatest found.delays found.hop
  pub burst : IsBurstFor network stream (port_on_route network stream listener found.hop) found.releases
