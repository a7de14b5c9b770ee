use Rattle.std.specs.Prelude.{ℕ, List, map}
use Rattle.ats_topology.specs.Port.{port_at}
use Rattle.ats_topology.specs.declared.port.Port.{Port}
use Rattle.ats_network.specs.Network.{DeclaredNetwork}
use Rattle.ats_certificate.specs.PortSums.{PortSums, port_sums}
use Rattle.ats_certificate.specs.Certificate.{bound_of}
use Rattle.ats_certificate.specs.Used.{places_of}
use Rattle.ats_certificate.specs.declared.row.Row.{Row}
use Rattle.ats_tally.specs.Waits.{least_wait}

-- the row of a port and a class with these sums and this wait
abbrev pub row_with : Port → ℕ → ℕ → PortSums → ℕ → Row
row_with port number class sums wait = record {
  port = number;
  class = class;
  higher = sums.higher;
  equal = sums.equal;
  bursts = sums.bursts;
  lower = sums.lower;
  least = sums.least;
  wait = wait;
  bound = bound_of port wait sums.least;
}

-- the row of a port and a class with the least wait
abbrev pub least_row : DeclaredNetwork → ℕ × ℕ → Row
least_row network place =
    let port = port_at network.topology.ports place.0 in
    let sums = port_sums network place.0 place.1 in
    row_with port place.0 place.1 sums (least_wait port sums)

-- the certificate with the least waits
abbrev pub least_certificate : DeclaredNetwork → List Row
least_certificate network = map (least_row network) (places_of network)
