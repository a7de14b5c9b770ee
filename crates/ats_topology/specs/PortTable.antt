use Rattle.std.specs.Prelude.{◌≡◌, ℕ, ◌<◌, ◌^◌, List, length, slice_index_or}
use Rattle.std.specs.Global.{Vec}
use Rattle.std.specs.Ordering.{nat_cmp, ordering_then}
use Rattle.std.specs.BTreeMap.{BTreeMap, get}
use Rattle.ats_topology.specs.Port.{port_between, leaving}
use Rattle.ats_topology.specs.declared.port.Port.{Port}

-- so many nodes, and the ports between them
pub record NodePorts : Type 0 where
  pub nodes : ℕ
  pub ports : List Port

-- these as one value
abbrev pub node_ports : ℕ → List Port → NodePorts
node_ports nodes ports = record { nodes = nodes; ports = ports }

-- the map finds each port by its two nodes, and each node has the list of the ports that leave it
pub record AreIndexed (ports : List Port) (places : BTreeMap (ℕ × ℕ) ℕ) (lists : List (Vec ℕ)) : Type 0 where
  pub found : (a b : ℕ)
      → get (λ x y. ordering_then (nat_cmp x.0 y.0) (nat_cmp x.1 y.1)) places (a, b) ≡ port_between a b ports
  pub leaving : (node : ℕ) (d : Vec ℕ) → node < length lists → (slice_index_or lists node d).items ≡ leaving node ports
  pub few : length ports < 2 ^ 32
