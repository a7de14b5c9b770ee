use Rattle.std.specs.Prelude.{◌≡◌, ℕ, ◌+◌, ◌*◌, ◌%◌, Bool, ◌&&◌, ◌==◌, List, length, fold, All, IfSome, Option, Some}
use Rattle.std.specs.Str.{bytes_eq}
use Rattle.ats_topology.specs.Port.{port_at, port_between}
use Rattle.ats_topology.specs.Topology.{DeclaredTopology, node_at}
use Rattle.ats_topology.specs.declared.port.Port.{Port}
use Rattle.ats_network_file.specs.declared.kept_steps.KeptSteps.{KeptSteps}
use Rattle.ats_network_file.specs.declared.kept_steps.TheConstants.{PLACES}

-- the port is the one from its first node to its second
abbrev pub IsStep : List Port → ℕ → Type 0
IsStep ports p = port_between (port_at ports p).from (port_at ports p).to ports ≡ Some p

-- there are so many places, and what is kept at one is a step of the topology
pub record AreSteps (topology : DeclaredTopology) (steps : KeptSteps) : Type 0 where
  pub long : length steps.ports.items ≡ PLACES
  pub each : All (λ (kept : Option ℕ). IfSome kept (IsStep topology.ports)) steps.ports.items

-- the place of the step from a node to the one with this name
abbrev pub step_place : ℕ → List ℕ → ℕ
step_place from name = fold (λ place byte. (place * 37 + byte) % PLACES) (from % PLACES) name

-- the port leads from this node to the one with this name
abbrev pub goes_to : DeclaredTopology → ℕ → ℕ → List ℕ → Bool
goes_to topology p from name =
    (port_at topology.ports p).from == from
    && bytes_eq (node_at topology.nodes (port_at topology.ports p).to).name name
