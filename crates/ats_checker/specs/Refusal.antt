use Rattle.std.specs.Prelude.{ℕ, ◌==◌, nat_lt, List, Option, Some, None, is_some, if◌then◌else◌}
use Rattle.std.specs.Option.{option_map, option_or}
use Rattle.ats_topology.specs.Port.{port_at}
use Rattle.ats_network.specs.Network.{DeclaredNetwork}
use Rattle.ats_certificate.specs.PortSums.{PortSums, port_sums, is_used}
use Rattle.ats_certificate.specs.Certificate.{row_of, bound_of}
use Rattle.ats_certificate.specs.Used.{places_of}
use Rattle.ats_certificate.specs.declared.row.Row.{Row}
use Rattle.ats_tally.specs.Waits.{least_wait}
use Rattle.ats_tally.specs.Reason.{first_some, overload_in, overstay, late}
use Rattle.ats_tally.specs.declared.reason.Reason.{Reason}
use Rattle.ats_checker.specs.declared.refusal.Field.{Field}
use Rattle.ats_checker.specs.declared.refusal.Field.TheVariants as field
use Rattle.ats_checker.specs.declared.refusal.Refusal.{Refusal}
use Rattle.ats_checker.specs.declared.refusal.Refusal.TheVariants.{RowMissing, RowStray, FieldWrong, WaitTooSmall}
use Rattle.ats_checker.specs.declared.refusal.Refusal.TheVariants.{Network}

-- a port and a class without a row
abbrev pub missing : List Row → ℕ × ℕ → Option Refusal
missing rows place = if is_some (row_of rows place.0 place.1) then None else Some (RowMissing place.0 place.1)

-- the same, only where some stream of the class uses the port
abbrev pub missing_at : DeclaredNetwork → List Row → ℕ → ℕ → Option Refusal
missing_at network rows port class = if is_used network port class then missing rows (port, class) else None

-- a row of a port and a class that no stream uses
abbrev pub stray : DeclaredNetwork → Row → Option Refusal
stray network row = if is_used network row.port row.class then None else Some (RowStray row.port row.class)

-- a field of a row that does not have its right value
abbrev pub wrong : Row → Field → ℕ → ℕ → Option Refusal
wrong row field given right = if given == right then None else Some (FieldWrong row.port row.class field right)

-- the first field of a row that is wrong, where the senders make these sums of its port and class and its bound is to
-- be this one
abbrev pub wrong_by : Row → PortSums → ℕ → Option Refusal
wrong_by row sums bound =
    option_or (wrong row field.Higher row.higher sums.higher)
    (option_or (wrong row field.Equal row.equal sums.equal)
    (option_or (wrong row field.Bursts row.bursts sums.bursts)
    (option_or (wrong row field.Lower row.lower sums.lower)
    (option_or (wrong row field.Least row.least sums.least)
    (wrong row field.Bound row.bound bound)))))

-- the first field of a row that is wrong for a network
abbrev pub wrong_in : DeclaredNetwork → Row → Option Refusal
wrong_in network row =
    wrong_by row (port_sums network row.port row.class)
    (bound_of (port_at network.topology.ports row.port) row.wait row.least)

-- a row with a wait that is too short
abbrev pub short : DeclaredNetwork → Row → Option Refusal
short network row =
    let least = least_wait (port_at network.topology.ports row.port) (port_sums network row.port row.class) in
    if nat_lt row.wait least then Some (WaitTooSmall row.port row.class least) else None

-- a reason of the network as a refusal
abbrev pub of_network : Option Reason → Option Refusal
of_network = option_map Network

-- why rows do not hold for a network, if they don't: of the clauses the first that fails, and there the first place,
-- row, field or stream with its first late listener
abbrev pub refusal_of : DeclaredNetwork → List Row → Option Refusal
refusal_of network rows =
    option_or (first_some (missing rows) (places_of network))
    (option_or (first_some (stray network) rows)
    (option_or (first_some (wrong_in network) rows)
    (option_or (of_network (first_some overload_in rows))
    (option_or (first_some (short network) rows)
    (option_or (of_network (first_some (overstay network) rows))
    (of_network (first_some (late network.topology rows) network.streams)))))))
