use Rattle.std.specs.Prelude.{◌≡◌, ℕ, ◌+◌, ◌*◌, ◌<◌, ◌≤◌, nat_lt, List, [], ◌∷◌, Option, Some, None, if◌then◌else◌}
use Rattle.std.specs.Option.{option_or}
use Rattle.ats_topology.specs.Topology.{DeclaredTopology}
use Rattle.ats_streams.specs.Stream.{DeclaredStream}
use Rattle.ats_network.specs.Listeners.{Listener, listeners_of}
use Rattle.ats_network.specs.Network.{DeclaredNetwork}
use Rattle.ats_network.specs.Residence.{residence_after}
use Rattle.ats_certificate.specs.Certificate.{bound_on, need_behind}
use Rattle.ats_certificate.specs.PortSums.{port_sums}
use Rattle.ats_certificate.specs.Used.{places_of}
use Rattle.ats_certificate.specs.declared.row.Row.{Row}
use Rattle.ats_tally.specs.Reason.{first_some, late, overstay}
use Rattle.ats_tally.specs.declared.reason.Reason.{Reason}
use Rattle.ats_tally.specs.declared.reason.Reason.TheVariants.{Deadline, Overloaded, Residence}
use Rattle.ats_bound.specs.Least.{least_certificate}
use Rattle.ats_bound.specs.Reason.{load_at, overload, reason_of}

-- along a list the first is told of which there is something to tell
pub record FirstIsTold (A : Type 0) : Type 0 where
  pub none : (given : A → Option Reason) → first_some given [] ≡ None
  pub one : (given : A → Option Reason) (x : A) (xs : List A) → first_some given (x ∷ xs)
      ≡ option_or (given x) (first_some given xs)

-- a port is overloaded in a class where it and the higher ones take more than the whole of each second
pub record LoadsAreReckoned : Type 0 where
  pub load : (network : DeclaredNetwork) (port class : ℕ) → load_at network (port, class)
      ≡ (port_sums network port class).higher + (port_sums network port class).equal
  pub over : (network : DeclaredNetwork) (port class : ℕ) → 1000000000000 < load_at network (port, class)
      → overload network (port, class) ≡ Some (Overloaded port class (load_at network (port, class)))
  pub fits : (network : DeclaredNetwork) (port class : ℕ) → load_at network (port, class) ≤ 1000000000000
      → overload network (port, class) ≡ None

-- a row is told where a frame may have to stay behind its port longer than the bridge there may keep it; behind a port
-- that leads to a station none is
pub record StaysAreReckoned : Type 0 where
  pub station : (network : DeclaredNetwork) (row : Row) → residence_after network.topology row.port ≡ None
      → overstay network row ≡ None
  pub longer : (network : DeclaredNetwork) (row : Row) (ns : ℕ) → residence_after network.topology row.port ≡ Some ns
      → 1000 * ns < need_behind network row.port row.wait
      → overstay network row ≡ Some (Residence row.port row.class (need_behind network row.port row.wait))
  pub within : (network : DeclaredNetwork) (row : Row) (ns : ℕ) → residence_after network.topology row.port ≡ Some ns
      → need_behind network row.port row.wait ≤ 1000 * ns → overstay network row ≡ None

-- a stream is late for the first of its listeners for which the bounds along the route there are together over its
-- deadline
abbrev pub LateIsReckoned : Type 0
LateIsReckoned = (topology : DeclaredTopology) (rows : List Row) (stream : DeclaredStream) → late topology rows stream
    ≡ first_some (λ (l : Listener). if nat_lt (1000 * stream.deadline_ns) (bound_on rows stream l.route)
    then Some (Deadline stream.name l.name (bound_on rows stream l.route)) else None) (listeners_of topology stream)

-- of a network the first overloaded place is told; where there is none, the first row of the least certificate with too
-- long a stay; and where there is none either, the first stream that is late by it
pub record WhyIsReckoned : Type 0 where
  pub overloaded : (network : DeclaredNetwork) (why : Reason)
      → first_some (overload network) (places_of network) ≡ Some why → reason_of network ≡ Some why
  pub overstays : (network : DeclaredNetwork) (why : Reason)
      → first_some (overload network) (places_of network) ≡ None
      → first_some (overstay network) (least_certificate network) ≡ Some why → reason_of network ≡ Some why
  pub overdue : (network : DeclaredNetwork) → first_some (overload network) (places_of network) ≡ None
      → first_some (overstay network) (least_certificate network) ≡ None
      → reason_of network ≡ first_some (late network.topology (least_certificate network)) network.streams

pub record ReasonsAreReckoned : Type 0 where
  pub places : FirstIsTold (ℕ × ℕ)
  pub rows : FirstIsTold Row
  pub streams : FirstIsTold DeclaredStream
  pub listeners : FirstIsTold Listener
  pub loads : LoadsAreReckoned
  pub stays : StaysAreReckoned
  pub late : LateIsReckoned
  pub why : WhyIsReckoned
