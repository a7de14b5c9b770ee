use Rattle.std.specs.Prelude.{◌≡◌, ℕ, ◌+◌, ◌-◌, ◌*◌, map}
use Rattle.ats_num.specs.Division.{ceiling}
use Rattle.ats_topology.specs.Port.{port_at}
use Rattle.ats_network.specs.Network.{DeclaredNetwork}
use Rattle.ats_certificate.specs.PortSums.{port_sums}
use Rattle.ats_certificate.specs.Used.{places_of}
use Rattle.ats_bound.specs.Least.{least_certificate, least_row}

-- the least row of a port and a class has the sums of its senders there, and waits for the longest lower frame and all
-- bursts less the shortest frame, at what the higher classes leave of the link, rounded up to a picosecond; its bound
-- is this wait with the transmission of the shortest frame and the latency of the port. The least certificate has the
-- least row of each place, and no other
pub record LeastRowsAreReckoned : Type 0 where
  pub port : (network : DeclaredNetwork) (port class : ℕ) → (least_row network (port, class)).port ≡ port
  pub class : (network : DeclaredNetwork) (port class : ℕ) → (least_row network (port, class)).class ≡ class
  pub higher : (network : DeclaredNetwork) (port class : ℕ) → (least_row network (port, class)).higher
      ≡ (port_sums network port class).higher
  pub equal : (network : DeclaredNetwork) (port class : ℕ) → (least_row network (port, class)).equal
      ≡ (port_sums network port class).equal
  pub bursts : (network : DeclaredNetwork) (port class : ℕ) → (least_row network (port, class)).bursts
      ≡ (port_sums network port class).bursts
  pub lower : (network : DeclaredNetwork) (port class : ℕ) → (least_row network (port, class)).lower
      ≡ (port_sums network port class).lower
  pub least : (network : DeclaredNetwork) (port class : ℕ) → (least_row network (port, class)).least
      ≡ (port_sums network port class).least
  pub wait : (network : DeclaredNetwork) (port class : ℕ) → (least_row network (port, class)).wait
      ≡ ceiling (1000000000000 * ((port_at network.topology.ports port).ps_per_bit
      * ((port_sums network port class).lower + (port_sums network port class).bursts
      - (port_sums network port class).least)))
      (1000000000000 - (port_sums network port class).higher)
  pub bound : (network : DeclaredNetwork) (port class : ℕ) → (least_row network (port, class)).bound
      ≡ (least_row network (port, class)).wait
      + (port_at network.topology.ports port).ps_per_bit * (port_sums network port class).least
      + (port_at network.topology.ports port).latency.0
  pub all : (network : DeclaredNetwork) → least_certificate network ≡ map (least_row network) (places_of network)
