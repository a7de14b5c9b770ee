use Rattle.std.specs.Prelude.{ℕ, ◌+◌, ◌*◌, ◌<◌, nat_lt, List, [], ◌∷◌, length, Option, Some, None, if◌then◌else◌}
use Rattle.std.specs.Option.{option_or}
use Rattle.ats_num.specs.declared.time.TheConstants.{PS_PER_SECOND, PS_PER_NS}
use Rattle.ats_topology.specs.Topology.{DeclaredTopology}
use Rattle.ats_streams.specs.Stream.{DeclaredStream}
use Rattle.ats_network.specs.Network.{DeclaredNetwork}
use Rattle.ats_network.specs.Residence.{residence_after}
use Rattle.ats_network.specs.Listeners.{Listener, listeners_of}
use Rattle.ats_certificate.specs.Certificate.{bound_on, need_behind}
use Rattle.ats_certificate.specs.declared.row.Row.{Row}
use Rattle.ats_tally.specs.declared.reason.Reason.{Reason}
use Rattle.ats_tally.specs.declared.reason.Reason.TheVariants.{Overloaded, Residence, Deadline}

-- the first value that a function gives along a list
abbrev pub first_some : {A B : Type 0} → (A → Option B) → List A → Option B
first_some given [] = None
first_some given (x ∷ xs) = option_or (given x) (first_some given xs)

-- a load of a port and a class that is more than the whole link
abbrev pub overload_by : ℕ → ℕ → ℕ → Option Reason
overload_by port class load = if nat_lt PS_PER_SECOND load then Some (Overloaded port class load) else None

-- the load that a row says
abbrev pub overload_in : Row → Option Reason
overload_in row = overload_by row.port row.class (row.higher + row.equal)

-- a need of residence that is longer than the maximum residence time behind the row's port
abbrev pub overstay_by : Row → ℕ → Option ℕ → Option Reason
overstay_by row need None = None
overstay_by row need (Some residence_ns) =
    if nat_lt (PS_PER_NS * residence_ns) need then Some (Residence row.port row.class need) else None

-- how long a frame may have to stay behind a row's port, by the clock there
abbrev pub row_need : DeclaredNetwork → Row → ℕ
row_need network row = need_behind network row.port row.wait

abbrev pub overstay : DeclaredNetwork → Row → Option Reason
overstay network row = overstay_by row (row_need network row) (residence_after network.topology row.port)

-- a sum of bounds over a stream's deadline, for the listener of this name
abbrev pub late_by : DeclaredStream → Option (List ℕ) → ℕ → Option Reason
late_by stream listener sum =
    if nat_lt (PS_PER_NS * stream.deadline_ns) sum then Some (Deadline stream.name listener sum) else None

-- that along the route to a listener
abbrev pub late_for : List Row → DeclaredStream → Listener → Option Reason
late_for rows stream listener = late_by stream listener.name (bound_on rows stream listener.route)

-- the first listener of a stream for which it is late
abbrev pub late : DeclaredTopology → List Row → DeclaredStream → Option Reason
late topology rows stream = first_some (late_for rows stream) (listeners_of topology stream)

-- the port that a reason names, where it names one, is a port of the topology
abbrev pub ReasonInside : DeclaredTopology → Reason → Type 0
ReasonInside topology (Overloaded port class load) = port < length topology.ports
ReasonInside topology (Residence port class need) = port < length topology.ports
ReasonInside topology (Deadline stream listener sum) = Unit {0}
