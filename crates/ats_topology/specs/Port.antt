use Rattle.std.specs.Prelude.{◌≡◌, ℕ, ◌+◌, ◌-◌, ◌<◌, length, Bool, ◌&&◌, ◌==◌, List, [], ◌∷◌, Option, if◌then◌else◌}
use Rattle.std.specs.Prelude.{slice_index_or}
use Rattle.std.specs.List.{position_from}
use Rattle.ats_topology.specs.declared.port.Port.{Port}

-- the port leaves this node
abbrev pub leaves : ℕ → Port → Bool
leaves node port = port.from == node

-- the port leads to this node
abbrev pub leads_to : ℕ → Port → Bool
leads_to node port = port.to == node

-- the port leaves the first node and leads to the second
abbrev pub goes : ℕ → ℕ → Port → Bool
goes a b port = port.from == a && port.to == b

-- the number of the first port from one node to another, if there is one
abbrev pub port_between : ℕ → ℕ → List Port → Option ℕ
port_between a b ports = position_from (goes a b) 0 ports

-- for numbers past the end of a list of ports
abbrev pub no_port : Port
no_port = record { from = 0; to = 0; ps_per_bit = 0; earliest = record { 0 = 0 }; latency = record { 0 = 0 } }

-- the port with a number
abbrev pub port_at : List Port → ℕ → Port
port_at ports p = slice_index_or ports p no_port

-- the port's spread: by how many picoseconds a frame may arrive behind it after the earliest moment
abbrev pub spread_of : Port → ℕ
spread_of port = port.latency.0 - port.earliest.0

-- the numbers, in ascending order, of the ports that leave a node, where the list begins with port k
abbrev pub leaving_from : ℕ → ℕ → List Port → List ℕ
leaving_from node k [] = []
leaving_from node k (port ∷ ports) = if leaves node port then k ∷ leaving_from node (k + 1) ports
    else leaving_from node (k + 1) ports

-- the numbers of the ports that leave a node, in ascending order
abbrev pub leaving : ℕ → List Port → List ℕ
leaving node ports = leaving_from node 0 ports

-- the port's ends are two of so many nodes
pub record IsBetween (nodes : ℕ) (port : Port) : Type 0 where
  pub from : port.from < nodes
  pub to : port.to < nodes

-- a port leads back from where this one leads to
pub record HasBack (ports : List Port) (p : ℕ) : Type 0 where
  pub back : ℕ
  pub within : back < length ports
  pub from : (port_at ports back).from ≡ (port_at ports p).to
  pub to : (port_at ports back).to ≡ (port_at ports p).from

-- each port has one that leads back
abbrev pub ArePaired : List Port → Type 0
ArePaired ports = (p : ℕ) → p < length ports → HasBack ports p

-- the port with this number leaves the first node and leads to the second
pub record GoesBetween (ports : List Port) (a b p : ℕ) : Type 0 where
  pub within : p < length ports
  pub from : (port_at ports p).from ≡ a
  pub to : (port_at ports p).to ≡ b
