use Rattle.std.specs.Prelude.{◌≡◌, ℕ, ◌*◌, List, [], ◌∷◌, codes, Some, None}
use Rattle.ats_topology.specs.Port.{port_at}
use Rattle.ats_topology.specs.Rates.{ps_per_bit_of}
use Rattle.ats_topology.specs.declared.port.Port.{Port}
use Rattle.ats_port_names.specs.PortName.{port_name, port_named}
use Rattle.ats_network.specs.Residence.{residence_after}
use Rattle.ats_certificate.specs.PortSums.{PortSums, port_sums}
use Rattle.ats_certificate.specs.Certificate.{bound_along, residence_needed}
use Rattle.ats_certificate.specs.declared.row.Row.{Row}
use Rattle.ats_tally.specs.declared.reason.Reason.TheVariants.{Residence, Deadline}
use Rattle.ats_tally.specs.Waits.{least_wait}
use Rattle.ats_bound.specs.Least.{least_certificate}
use Rattle.ats_bound.specs.Reason.{reason_of}
use Rattle.ats_text_examples.specs.Worked.{way, wide, way_with, u, v}

-- The ports of the worked network, and what its senders make of them.

-- the picoseconds that a bit takes are those of the rate: a million at one megabit per second
abbrev pub RatesAreInverse : Type 0
RatesAreInverse = (mbps ps_per_bit : ℕ) → ps_per_bit_of mbps ≡ Some ps_per_bit → mbps * ps_per_bit ≡ 1000000

-- a port with these ends, a bit of so many picoseconds, and these latencies
abbrev pub port : ℕ → ℕ → ℕ → ℕ → ℕ → Port
port from to ps_per_bit earliest latency = record {
  from = from;
  to = to;
  ps_per_bit = ps_per_bit;
  earliest = record { 0 = earliest };
  latency = record { 0 = latency };
}

-- there and back over each link. The nodes are numbered in order, s1, s2, b1 and b2; a latency is the propagation and
-- the processing of the node behind the port
abbrev pub six_ports : List Port
six_ports =
    port 0 2 1000 800000 1600000 ∷ port 2 0 1000 100000 100000
    ∷ port 2 3 400 2330000 2630000 ∷ port 3 2 400 930000 1730000
    ∷ port 3 1 10000 45000 45000 ∷ port 1 3 10000 2145000 2445000 ∷ []

abbrev pub sums : ℕ → ℕ → ℕ → ℕ → ℕ → PortSums
sums higher equal bursts lower least =
    record { higher = higher; equal = equal; bursts = bursts; lower = lower; least = least }

-- a row by its columns
abbrev pub row_with : ℕ → ℕ → ℕ → ℕ → ℕ → ℕ → ℕ → ℕ → ℕ → Row
row_with port class higher equal bursts lower least wait bound = record {
  port = port;
  class = class;
  higher = higher;
  equal = equal;
  bursts = bursts;
  lower = lower;
  least = least;
  wait = wait;
  bound = bound;
}

-- the row of each port and class that a stream uses
abbrev pub wide_rows : List Row
wide_rows =
    row_with 0 5 20000000000 30000000000 19004 11360 960 30004082 32564082
    ∷ row_with 0 6 0 20000000000 9001 11360 672 19689000 21961000
    ∷ row_with 2 5 0 20000000000 19004 11360 672 11876800 14775600
    ∷ row_with 4 4 300000000000 200000000000 19004 11360 672 424171429 430936429
    ∷ row_with 4 5 0 300000000000 10003 11360 960 204030000 213675000 ∷ []

-- the ports, what is said of them and how they are called; the sums of the last port in both classes, and the wait that
-- they take; the least certificate, the sums along both paths, and the reasons where the residence and the deadline are
-- less
pub record PortsAreWorked : Type 0 where
  pub ports : way.topology.ports ≡ six_ports
  pub first_residence : residence_after way.topology 0 ≡ Some 30000
  pub second_residence : residence_after way.topology 2 ≡ Some 20000
  pub no_residence : residence_after way.topology 4 ≡ None
  pub first_name : port_name way.topology 0 ≡ codes "s1>b1"
  pub fourth_name : port_name way.topology 3 ≡ codes "b2>b1"
  pub last_name : port_name way.topology 5 ≡ codes "s2>b2"
  pub first_named : port_named way.topology (codes "b1>b2") ≡ Some 2
  pub second_named : port_named way.topology (codes "b2>b1") ≡ Some 3
  pub none_named : port_named way.topology (codes "s1>b2") ≡ None
  pub lower_sums : port_sums way 4 4 ≡ sums 300000000000 200000000000 19004 11360 672
  pub upper_sums : port_sums way 4 5 ≡ sums 0 300000000000 10003 11360 960
  pub lower_wait : least_wait (port_at six_ports 4) (sums 300000000000 200000000000 19004 11360 672) ≡ 424171429
  pub upper_wait : least_wait (port_at six_ports 4) (sums 0 300000000000 10003 11360 960) ≡ 204030000
  pub stay : residence_needed (port_at six_ports 0) 30004082 ≡ 30804082
  pub rows : least_certificate wide ≡ wide_rows
  pub first_sum : bound_along wide_rows u ≡ 467673029
  pub second_sum : bound_along wide_rows (v 300000) ≡ 261014682
  pub free : reason_of wide ≡ None
  pub stays : reason_of way ≡ Some (Residence 0 5 30804082)
  pub late : reason_of (way_with 40000 200000) ≡ Some (Deadline (codes "v") None 261014682)
