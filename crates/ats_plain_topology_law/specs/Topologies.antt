use Rattle.std.specs.Prelude.{◌≡◌, ℕ, ◌==◌, ◌||◌, ◌/◌, List, [], ◌∷◌, Some, None, if◌then◌else◌}
use Rattle.std.specs.List.{flat_map, list_any}
use Rattle.std.specs.Str.{bytes_eq}
use Rattle.ats_topology.specs.Faults.{no_link}
use Rattle.ats_topology.specs.Link.{ends_at}
use Rattle.ats_topology.specs.Port.{no_port}
use Rattle.ats_topology.specs.Rates.{ps_per_bit_of}
use Rattle.ats_topology.specs.Topology.{link_ports, no_node, topology_of}
use Rattle.ats_topology.specs.declared.link.Link.{Link}
use Rattle.ats_topology.specs.declared.node.Kind.TheVariants.{Station}
use Rattle.ats_topology.specs.declared.node.Node.{Node}

-- a link has one of these ten rates in megabits per second, and a bit takes as many picoseconds as 10^6, divided by it;
-- and it ends at a node where one of its two ends has the node's name
pub record LinksAreGiven : Type 0 where
  pub rates : (mbps : ℕ) → ps_per_bit_of mbps
      ≡ (if list_any (λ rate. rate == mbps)
      (10 ∷ 100 ∷ 1000 ∷ 2500 ∷ 5000 ∷ 10000 ∷ 25000 ∷ 40000 ∷ 50000 ∷ 100000 ∷ []) then Some (1000000 / mbps)
      else None)
  pub ends : (name : List ℕ) (link : Link) → ends_at name link ≡ (bytes_eq link.a name || bytes_eq link.b name)

-- the topology of nodes and links has these, in their order, and the ports of each link, link after link
pub record PartsAreGiven : Type 0 where
  pub nodes : (nodes : List Node) (links : List Link) → (topology_of nodes links).nodes ≡ nodes
  pub links : (nodes : List Node) (links : List Link) → (topology_of nodes links).links ≡ links
  pub ports : (nodes : List Node) (links : List Link) → (topology_of nodes links).ports
      ≡ flat_map (link_ports nodes) links

-- past the end of their lists stand a station without a name, a link without names and with numbers of 0, and a port
-- that takes no time from node 0 to itself
pub record EndsAreGiven : Type 0 where
  pub node : no_node ≡ record { name = []; kind = Station }
  pub link : no_link ≡ record { a = []; b = []; mbps = 0; propagation_ns = 0 }
  pub port : no_port
      ≡ record { from = 0; to = 0; ps_per_bit = 0; earliest = record { 0 = 0 }; latency = record { 0 = 0 } }

pub record TopologiesAreGiven : Type 0 where
  pub links : LinksAreGiven
  pub parts : PartsAreGiven
  pub ends : EndsAreGiven
