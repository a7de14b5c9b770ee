use Rattle.std.proofs.Common.{◌≡◌, ℕ, ap, refl}
use Rattle.std.specs.Prelude.{◌==◌}
use Rattle.ats_topology.specs.declared.port.Port.{Port}
use Rattle.ats_trace.specs.ExactLinks.{HaveOneLatency}
use Rattle.ats_trace.proofs.ExactLinks.{links_are_exact}
use Rattle.ats_examples.specs.Networks.{line}
use Rattle.ats_examples.proofs.NetworkProofs.{line_is}
use Rattle.ats_examples.proofs.Tests.{all_by, eq_of}
use Rattle.ats_exact_examples.specs.Links.{LatenciesMayDiffer}

-- Latencies of the line's ports, by a test of each.

line_has_one : HaveOneLatency line.topology.ports
line_has_one = all_by (λ (port : Port). port.earliest ≡ port.latency)
    (λ (port : Port). port.earliest.0 == port.latency.0)
    (λ port h. ap (λ (n : ℕ). record { 0 = n }) (eq_of port.earliest.0 port.latency.0 h)) line.topology.ports refl

pub latencies_may_differ : LatenciesMayDiffer
latencies_may_differ = record {
  rules = line_is;
  one = line_has_one;
  to_bridge = refl;
  to_station = refl;
  exact = λ run. links_are_exact line run line_is line_has_one;
}
