use Rattle.std.specs.Prelude.{◌≡◌, ◌≢◌, ◌↔◌, ℕ, ◌+◌, ◌*◌, ◌<◌, ◌≤◌, ◌==◌, Bool, true, false, List, [], ◌∷◌, length, All}
use Rattle.std.specs.Prelude.{count_by, IsTrue, Some, None}
use Rattle.std.specs.List.{list_any}
use Rattle.ats_topology.specs.Laws.{IsLeastBelow}
use Rattle.ats_topology.specs.Node.{is_station}
use Rattle.ats_topology.specs.Port.{leads_to, leaves, port_at, spread_of}
use Rattle.ats_topology.specs.Rates.{IsPsPerBit}
use Rattle.ats_topology.specs.Topology.{DeclaredTopology, HasLawfulPorts, IsPort, link_at, node_at, port_of}
use Rattle.ats_topology.specs.Walks.{IsWalk, NoWalk}
use Rattle.ats_topology.specs.declared.port.Port.{Port}
use Rattle.ats_route_tree.specs.Legs.{DeclaredLegs, HasLegs, HaveRoutes}
use Rattle.ats_route_tree.specs.Laws.{IsRightFor}
use Rattle.ats_route_tree.specs.Steps.{legs_found}

-- What laws conclude of the ports of a topology, of walks over them and of legs, part by part, both ways.

-- the picoseconds of a bit at each of the ten rates
abbrev pub bit_times : List ℕ
bit_times = 100000 ∷ 10000 ∷ 1000 ∷ 400 ∷ 200 ∷ 100 ∷ 40 ∷ 25 ∷ 20 ∷ 10 ∷ []

-- each port is within these limits
pub record EachPortIsMeant : Type 0 where
  pub per_bit : (ps : ℕ) → IsPsPerBit ps
      ↔ (IsTrue (list_any (λ time. time == ps) bit_times) × (10 ≤ ps) × (ps ≤ 100000))
  pub port : (nodes : ℕ) (port : Port) → IsPort nodes port
      ↔ ((port.from < nodes) × (port.to < nodes) × (port.from ≢ port.to) × IsPsPerBit port.ps_per_bit
      × (port.earliest.0 ≤ port.latency.0) × (port.latency.0 ≤ 2000000000) × (spread_of port ≤ 1000000000))

-- and they are two for each link, there and back, of which one leaves each station and one leads to it
abbrev pub LawfulPortsAreMeant : Type 0
LawfulPortsAreMeant = (t : DeclaredTopology) → HasLawfulPorts t
    ↔ ((length t.ports ≡ 2 * length t.links) × All (IsPort (length t.nodes)) t.ports
    × ((i : ℕ) → i < length t.links
    → (port_at t.ports (2 * i) ≡ port_of t.nodes (link_at t.links i) (link_at t.links i).a (link_at t.links i).b)
    × (port_at t.ports (2 * i + 1) ≡ port_of t.nodes (link_at t.links i) (link_at t.links i).b (link_at t.links i).a))
    × ((n : ℕ) → n < length t.nodes → IsTrue (is_station (node_at t.nodes n).kind)
    → (count_by (leaves n) t.ports ≡ 1) × (count_by (leads_to n) t.ports ≡ 1))
    × ((p : ℕ) → p < length t.ports
    → (back : ℕ) × (back < length t.ports) × ((port_at t.ports back).from ≡ (port_at t.ports p).to)
    × ((port_at t.ports back).to ≡ (port_at t.ports p).from)))

-- a walk goes on where its ports do, one after another, and ends where it is to; none is just that each list of ports
-- is no walk
pub record WalksAreMeant : Type 0 where
  pub at_end : (ports : List Port) (a b : ℕ) → IsWalk ports a b [] ↔ (a ≡ b)
  pub further : (ports : List Port) (a b p : ℕ) (walk : List ℕ) → IsWalk ports a b (p ∷ walk)
      ↔ ((p < length ports) × ((port_at ports p).from ≡ a) × IsWalk ports (port_at ports p).to b walk)
  pub none : (ports : List Port) (a b : ℕ) → NoWalk ports a b ↔ ((walk : List ℕ) → ¬ IsWalk ports a b walk)

-- the least number below another one that passes a test; and which legs are right for routes
pub record FirstsAreMeant : Type 0 where
  pub least : (test : ℕ → Bool) (n least : ℕ) → IsLeastBelow test n least
      ↔ ((least < n) × (test least ≡ true) × ((k : ℕ) → k < least → test k ≡ false))
  pub legs : (topology : DeclaredTopology) (routes : List (List ℕ)) → IsRightFor topology routes
      ↔ (((legs : DeclaredLegs) → (legs_found topology routes ≡ Some legs) ↔ HaveRoutes topology routes legs)
      × ((legs_found topology routes ≡ None) ↔ ¬ HasLegs topology routes))

pub record PortsAreMeant : Type 0 where
  pub each : EachPortIsMeant
  pub lawful : LawfulPortsAreMeant
  pub walks : WalksAreMeant
  pub firsts : FirstsAreMeant
