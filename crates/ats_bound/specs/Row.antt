use Rattle.std.specs.Prelude.{ℕ, ◌+◌, nat_lt, if◌then◌else◌, Result, Ok, Err}
use Rattle.ats_num.specs.declared.time.TheConstants.{PS_PER_SECOND}
use Rattle.ats_topology.specs.Port.{port_at}
use Rattle.ats_topology.specs.declared.port.Port.{Port}
use Rattle.ats_network.specs.Network.{DeclaredNetwork}
use Rattle.ats_certificate.specs.PortSums.{PortSums, port_sums}
use Rattle.ats_certificate.specs.declared.row.Row.{Row}
use Rattle.ats_tally.specs.Waits.{least_wait}
use Rattle.ats_bound.specs.Least.{row_with}

-- the row of a port and a class with these sums and the least wait, or the load where it is more than the whole link
abbrev pub row_from : Port → ℕ → ℕ → PortSums → Result Row ℕ
row_from port number class sums =
    if nat_lt PS_PER_SECOND (sums.higher + sums.equal) then Err (sums.higher + sums.equal)
    else Ok (row_with port number class sums (least_wait port sums))

-- the least row of a place, or its load where that is more than the whole link
abbrev pub row_or_load : DeclaredNetwork → ℕ × ℕ → Result Row ℕ
row_or_load network place =
    row_from (port_at network.topology.ports place.0) place.0 place.1 (port_sums network place.0 place.1)
