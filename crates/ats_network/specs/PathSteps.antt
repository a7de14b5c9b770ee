-- How `is_valid_path` goes over ports, step by step: what the clauses of its private functions speak of. What a valid
-- path is, `Path` alone says.
use Rattle.std.specs.Prelude.{ℕ, Bool, true, ◌&&◌, ◌==◌, nat_lt, not, if◌then◌else◌, List, [], ◌∷◌, length, Option}
use Rattle.std.specs.Prelude.{Some, None}
use Rattle.std.specs.List.{list_any}
use Rattle.std.specs.Option.{option_map}
use Rattle.ats_topology.specs.Port.{port_at, leads_to}
use Rattle.ats_topology.specs.declared.port.Port.{Port}

-- the node to which a walk from a node along these ports leads, if they make one
abbrev pub walk_end : List Port → ℕ → List ℕ → Option ℕ
walk_end ports a [] = Some a
walk_end ports a (p ∷ path) = if nat_lt p (length ports) && (port_at ports p).from == a
    then walk_end ports (port_at ports p).to path else None

-- the nodes between which some ports make a walk, if there are any ports and they make one
abbrev pub ends_of : List Port → List ℕ → Option (ℕ × ℕ)
ends_of ports [] = None
ends_of ports (p ∷ path) =
    option_map (λ b. ((port_at ports p).from, b)) (walk_end ports (port_at ports p).from (p ∷ path))

-- one of the ports leads to this node
abbrev pub comes_to : List Port → ℕ → List ℕ → Bool
comes_to ports node path = list_any (λ p. leads_to node (port_at ports p)) path

-- no two of the ports lead to the same node
abbrev pub part_ways : List Port → List ℕ → Bool
part_ways ports [] = true
part_ways ports (p ∷ path) = not (comes_to ports (port_at ports p).to path) && part_ways ports path
