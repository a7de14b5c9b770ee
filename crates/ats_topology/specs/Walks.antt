use Rattle.std.specs.Prelude.{◌≡◌, ℕ, ◌<◌, ◌≤◌, List, [], ◌∷◌, length, IsTrue, All}
use Rattle.std.specs.Ordering.{nat_cmp, is_le}
use Rattle.std.specs.Cmp.Lexicographic.{slice_cmp}
use Rattle.ats_topology.specs.Port.{port_at}
use Rattle.ats_topology.specs.declared.port.Port.{Port}

-- the port with this number leaves the node
pub record IsPortFrom (ports : List Port) (node p : ℕ) : Type 0 where
  pub within : p < length ports
  pub from : (port_at ports p).from ≡ node

-- the numbers of the ports of a walk from one node to another: the first port leaves the one, each later port leaves
-- the node that the port before leads to, and the last leads to the other
abbrev pub IsWalk : List Port → ℕ → ℕ → List ℕ → Type 0
IsWalk ports a b [] = a ≡ b
IsWalk ports a b (p ∷ walk) = IsPortFrom ports a p × IsWalk ports (port_at ports p).to b walk

-- no walk leads from one node to another
abbrev pub NoWalk : List Port → ℕ → ℕ → Type 0
NoWalk ports a b = (walk : List ℕ) → ¬ IsWalk ports a b walk

-- a walk of fewest ports, and of those the first in lexicographic order of port numbers
pub record IsLeastWalk (ports : List Port) (a b : ℕ) (walk : List ℕ) : Type 0 where
  pub walk_is : IsWalk ports a b walk
  pub least : (other : List ℕ) → IsWalk ports a b other → length walk ≤ length other
  pub first : (other : List ℕ) → IsWalk ports a b other → length other ≡ length walk
      → IsTrue (is_le (slice_cmp nat_cmp walk other))

-- these are numbers of ports
abbrev pub ArePorts : List Port → List ℕ → Type 0
ArePorts ports numbers = All (λ p. p < length ports) numbers
