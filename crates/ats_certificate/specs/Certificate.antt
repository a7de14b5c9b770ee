use Rattle.std.specs.Prelude.{◌≡◌, ℕ, ◌+◌, ◌-◌, ◌*◌, ◌<◌, ◌≤◌, Bool, ◌&&◌, ◌==◌, ◌⊎◌, IsTrue, IsSome, List, find, map}
use Rattle.std.specs.Prelude.{sum_by, All, AllPairs, Option, unwrap_or}
use Rattle.std.specs.Option.{option_map, ForSome}
use Rattle.ats_num.specs.declared.time.TheConstants.{PS_PER_SECOND, PS_PER_NS}
use Rattle.ats_num.specs.Division.{ceiling}
use Rattle.ats_clock.specs.Clock.{DeclaredClock}
use Rattle.ats_clock.specs.declared.clock.TheConstants.{MILLION}
use Rattle.ats_topology.specs.Port.{port_at, spread_of}
use Rattle.ats_topology.specs.declared.port.Port.{Port}
use Rattle.ats_streams.specs.Branches.{routes_of, trunk_of}
use Rattle.ats_streams.specs.Stream.{DeclaredStream}
use Rattle.ats_network.specs.Sender.{Sender, stream_sender}
use Rattle.ats_network.specs.Class.{class_at}
use Rattle.ats_network.specs.Network.{DeclaredNetwork}
use Rattle.ats_network.specs.Rates.{clock_behind}
use Rattle.ats_network.specs.Residence.{residence_after}
use Rattle.ats_certificate.specs.PortSums.{PortSums, port_sums, is_used}
use Rattle.ats_certificate.specs.declared.row.Row.{Row}

-- the row is that of a port and a class
abbrev pub is_row_of : ℕ → ℕ → Row → Bool
is_row_of port class row = row.port == port && row.class == class

-- the row of a port and a class, if there is one
abbrev pub row_of : List Row → ℕ → ℕ → Option Row
row_of rows port class = find (is_row_of port class) rows

-- the bound of a port and a class in picoseconds; 0 where there is no row
abbrev pub bound_at : List Row → ℕ → ℕ → ℕ
bound_at rows port class = unwrap_or (option_map (λ (row : Row). row.bound) (row_of rows port class)) 0

-- the bound of a hop: that of its port, in the class that the sender has there
abbrev pub bound_of_hop : List Row → Sender → ℕ → ℕ
bound_of_hop rows sender port = bound_at rows port (class_at sender port)

-- the sum of the bounds along a route of a stream
abbrev pub bound_on : List Row → DeclaredStream → List ℕ → ℕ
bound_on rows stream route = sum_by (bound_of_hop rows (stream_sender stream)) route

-- that along its trunk: the sum for its first listener
abbrev pub bound_along : List Row → DeclaredStream → ℕ
bound_along rows stream = bound_on rows stream (trunk_of stream.ports stream.branches)

-- the sum for each of its listeners, leg by leg
abbrev pub sums_of : List Row → DeclaredStream → List ℕ
sums_of rows stream = map (bound_on rows stream) (routes_of stream.ports stream.branches)

-- the first row comes before the second: its port is lower, or the port is the same and its class is lower
abbrev pub IsBefore : Row → Row → Type 0
IsBefore a b = (a.port < b.port) ⊎ ((a.port ≡ b.port) × (a.class < b.class))

-- a row says what the senders make of its port and class
pub record HasSums (row : Row) (sums : PortSums) : Type 0 where
  pub higher : row.higher ≡ sums.higher
  pub equal : row.equal ≡ sums.equal
  pub bursts : row.bursts ≡ sums.bursts
  pub lower : row.lower ≡ sums.lower
  pub least : row.least ≡ sums.least

-- a bound: the wait, the transmission of the shortest frame, and the latency
abbrev pub bound_of : Port → ℕ → ℕ → ℕ
bound_of port wait least = wait + port.ps_per_bit * least + port.latency.0

-- the rates of the class and of those above it fit the link
abbrev pub FitsLink : Row → Type 0
FitsLink row = row.higher + row.equal ≤ PS_PER_SECOND

-- the wait is long enough: at the rate that the higher classes leave, the link sends in it the longest lower frame and
-- all bursts, less the shortest frame of the class
abbrev pub IsEnough : Port → Row → Type 0
IsEnough port row =
    PS_PER_SECOND * (port.ps_per_bit * (row.lower + row.bursts - row.least)) ≤ row.wait * (PS_PER_SECOND - row.higher)

-- a row covers its port and class: it says what the senders make of them, which fits the link, waits long enough, and
-- gives the bound that follows
pub record Covers (network : DeclaredNetwork) (row : Row) : Type 0 where
  pub sums : HasSums row (port_sums network row.port row.class)
  pub bound : row.bound ≡ bound_of (port_at network.topology.ports row.port) row.wait row.least
  pub load : FitsLink row
  pub wait : IsEnough (port_at network.topology.ports row.port) row

-- how long a frame may have to stay behind a port: the wait at the port, and the port's spread
abbrev pub residence_needed : Port → ℕ → ℕ
residence_needed port wait = wait + spread_of port

-- by a clock this is with what the clock may gain meanwhile by its deviation, and with its step
abbrev pub need_by : DeclaredClock → ℕ → ℕ
need_by clock need = need + clock.step_ps + ceiling (clock.deviation_ppm * need) MILLION

-- how long it is behind a port by the clock there
abbrev pub need_behind : DeclaredNetwork → ℕ → ℕ → ℕ
need_behind network port wait =
    need_by (clock_behind network.topology port) (residence_needed (port_at network.topology.ports port) wait)

-- where a port leads to a bridge, this need is at most the maximum residence time there
abbrev pub MayStay : DeclaredNetwork → ℕ → ℕ → Type 0
MayStay network port wait =
    ForSome (residence_after network.topology port) (λ ns. need_behind network port wait ≤ PS_PER_NS * ns)

-- what each row of a certificate keeps
pub record RowHolds (network : DeclaredNetwork) (row : Row) : Type 0 where
  pub covers : Covers network row
  pub residence : MayStay network row.port row.wait

-- a sum of bounds is within a stream's deadline
abbrev pub MeetsDeadline : DeclaredStream → ℕ → Type 0
MeetsDeadline stream sum = sum ≤ PS_PER_NS * stream.deadline_ns

-- for each of a stream's listeners the bounds along the route there are together within its deadline
abbrev pub IsInTime : List Row → DeclaredStream → Type 0
IsInTime rows stream = All (λ route. MeetsDeadline stream (bound_on rows stream route))
    (routes_of stream.ports stream.branches)

-- there is one row for each port and class that some stream uses, in ascending order of ports and then classes, and no
-- other
pub record HasRows (network : DeclaredNetwork) (rows : List Row) : Type 0 where
  pub complete : (port class : ℕ) → IsTrue (is_used network port class) → IsSome (row_of rows port class)
  pub used : All (λ (row : Row). IsTrue (is_used network row.port row.class)) rows
  pub ordered : AllPairs IsBefore rows

-- a certificate holds for a network: it has the rows of the network, each row keeps what it must, and each stream is in
-- time for each of its listeners
pub record Holds (network : DeclaredNetwork) (rows : List Row) : Type 0 where
  pub rows_of : HasRows network rows
  pub each : All (RowHolds network) rows
  pub deadlines : All (IsInTime rows) network.streams
