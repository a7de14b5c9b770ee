use Rattle.std.specs.Prelude.{◌≡◌, ℕ, ◌↔◌, List}
use Rattle.ats_topology.specs.Port.{port_at}
use Rattle.ats_network.specs.Network.{IsNetwork}
use Rattle.ats_trace.specs.ExactLinks.{HaveOneLatency, IsLegalAt}
use Rattle.ats_trace.specs.Journey.{Travel}
use Rattle.ats_trace.specs.Run.{IsIdeal}
use Rattle.ats_examples.specs.Networks.{line}

-- Ports with one latency each.

-- the latency of a port of the line in picoseconds
abbrev pub latency_at : ℕ → ℕ
latency_at port = (port_at line.topology.ports port).latency.0

-- what `links_are_exact` asks is met by the line, where a bridge takes time to process a frame, and a station none, so
-- that its ports have two latencies. Its legal runs are those in which each frame arrives when its port's latency is
-- over. Refuses one latency for all ports
pub record LatenciesMayDiffer : Type 0 where
  pub rules : IsNetwork line
  pub one : HaveOneLatency line.topology.ports
  pub to_bridge : latency_at 0 ≡ 1500000
  pub to_station : latency_at 2 ≡ 500000
  pub exact : (run : List Travel) → IsIdeal line run ↔ IsLegalAt line run
