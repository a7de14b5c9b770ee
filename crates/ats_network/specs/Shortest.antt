use Rattle.std.specs.Prelude.{ℕ, zero, suc, ◌==◌, if◌then◌else◌, List, [], ◌∷◌, length, Option, Some, None}
use Rattle.std.specs.Option.{option_or, option_map}
use Rattle.ats_topology.specs.Port.{port_at, leaving}
use Rattle.ats_topology.specs.Topology.{DeclaredTopology}
use Rattle.ats_topology.specs.declared.port.Port.{Port}

-- the first value that a function gives for a number of a list
abbrev pub first_along : (ℕ → Option (List ℕ)) → List ℕ → Option (List ℕ)
first_along given [] = None
first_along given (p ∷ numbers) = option_or (given p) (first_along given numbers)

-- the first value that a function gives for a number below n
abbrev pub first_of : (ℕ → Option (List ℕ)) → ℕ → Option (List ℕ)
first_of given zero = None
first_of given (suc n) = option_or (first_of given n) (given n)

-- the walks of exactly n ports from one node to another: the one whose list of port numbers is first in lexicographic
-- order, where there are any; its first port is the least from which the rest can be gone
abbrev pub first_walk : ℕ → List Port → ℕ → ℕ → Option (List ℕ)
first_walk zero ports a b = if a == b then Some [] else None
first_walk (suc n) ports a b =
    first_along (λ p. option_map (λ walk. p ∷ walk) (first_walk n ports (port_at ports p).to b)) (leaving a ports)

-- the walk of fewest ports from one node to another, and of those the first in lexicographic order, if any leads there;
-- such a walk has fewer ports than there are nodes
abbrev pub shortest_of : DeclaredTopology → ℕ → ℕ → Option (List ℕ)
shortest_of topology a b = first_of (λ n. first_walk n topology.ports a b) (length topology.nodes)
