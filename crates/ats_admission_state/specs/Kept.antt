use Rattle.std.specs.Prelude.{◌≡◌, ℕ, ◌<◌, ◌≤◌, false, if◌then◌else◌, List, length, Some}
use Rattle.ats_class_table.specs.Table.{Table, value_at}
use Rattle.ats_streams.specs.Stream.{DeclaredStream}
use Rattle.ats_network.specs.Network.{DeclaredNetwork, IsNetwork}
use Rattle.ats_certificate.specs.PortSums.{is_used}
use Rattle.ats_bound.specs.Least.{least_row}
use Rattle.ats_admission_users.specs.Users.{UsersState, ListsPaths, has_port}
use Rattle.ats_tally.specs.Shares.{AreSharesOf}
use Rattle.ats_tally.specs.declared.share.Share.{Share}
use Rattle.ats_admission_shares.specs.PortShares.{stream_at, stream_paths, without_at}
use Rattle.ats_admission_state.specs.Routes.{RouteState, routes_of}

-- which streams use each port, what the senders of each class make there, a bound for each port and class, and the
-- routes of the streams
pub record KeptState : Type 0 where
  pub streams : UsersState
  pub shares : Table Share
  pub bounds : Table ℕ
  pub routes : List RouteState

-- these as one state
abbrev pub kept_state : UsersState → Table Share → Table ℕ → List RouteState → KeptState
kept_state streams shares bounds routes =
    record { streams = streams; shares = shares; bounds = bounds; routes = routes }

-- the users of a network's ports, by the ports of its streams, the shares of its senders, and its streams' routes
pub record KeepsStreams (network : DeclaredNetwork) (streams : UsersState) (shares : Table Share)
    (routes : List RouteState) : Type 0 where
  pub users : ListsPaths (length network.topology.ports) (stream_paths network) streams
  pub shares_are : AreSharesOf network shares
  pub routes_are : routes ≡ routes_of network

-- so they are those of the network that was this one with this stream more, at this number
pub record KeepsBefore (network : DeclaredNetwork) (number : ℕ) (x : DeclaredStream) (streams : UsersState)
    (shares : Table Share) (routes : List RouteState) : Type 0 where
  pub old : DeclaredNetwork
  pub rules : IsNetwork old
  pub within : number < length old.streams
  pub stream : stream_at old number ≡ x
  pub without : network ≡ without_at old number
  pub keeps : KeepsStreams old streams shares routes

-- the least bound of a port and a class that some stream uses there; of another 0
abbrev pub least_bound : DeclaredNetwork → ℕ → ℕ → ℕ
least_bound network port class = if is_used network port class then (least_row network (port, class)).bound else 0

-- bounds are the least ones at each port and class
pub record AreLeast (network : DeclaredNetwork) (bounds : Table ℕ) : Type 0 where
  pub count : bounds.ports ≡ length network.topology.ports
  pub each : (port class : ℕ) → port < length network.topology.ports → 1 ≤ class → class ≤ 7
      → value_at bounds port class ≡ Some (least_bound network port class)

-- so they are at each port that is not on this path
pub record AreLeastBeside (network : DeclaredNetwork) (path : List ℕ) (bounds : Table ℕ) : Type 0 where
  pub count : bounds.ports ≡ length network.topology.ports
  pub each : (port class : ℕ) → port < length network.topology.ports → 1 ≤ class → class ≤ 7
      → has_port port path ≡ false → value_at bounds port class ≡ Some (least_bound network port class)

-- what is kept is that of the network
pub record IsKept (network : DeclaredNetwork) (kept : KeptState) : Type 0 where
  pub keeps : KeepsStreams network kept.streams kept.shares kept.routes
  pub bounds : AreLeast network kept.bounds

-- so it is but for the bounds along a path
pub record IsKeptBeside (network : DeclaredNetwork) (path : List ℕ) (kept : KeptState) : Type 0 where
  pub keeps : KeepsStreams network kept.streams kept.shares kept.routes
  pub bounds : AreLeastBeside network path kept.bounds

-- what is kept is that of the network that was this one with this stream more, at this number, but for the bounds along
-- its path
pub record WasKept (network : DeclaredNetwork) (number : ℕ) (x : DeclaredStream) (kept : KeptState) : Type 0 where
  pub keeps : KeepsBefore network number x kept.streams kept.shares kept.routes
  pub bounds : AreLeastBeside network x.ports kept.bounds
