use Rattle.std.specs.Prelude.{◌≡◌, ℕ, ◌<◌, Bool, true, false, List, Some, None}
use Rattle.ats_topology.specs.Walks.{IsLeastWalk}
use Rattle.ats_topology.specs.Faults.{first_below}
use Rattle.ats_topology.specs.Topology.{DeclaredTopology, IsTopology, HasLawfulPorts}
use Rattle.ats_topology.specs.declared.port.Port.{Port}

-- two least walks between the same nodes are the same
abbrev pub LeastWalkIsOne : Type 0
LeastWalkIsOne = (ports : List Port) (a b : ℕ) (walk other : List ℕ) → IsLeastWalk ports a b walk
    → IsLeastWalk ports a b other → walk ≡ other

-- the number is the least below n that passes the test
pub record IsLeastBelow (test : ℕ → Bool) (n least : ℕ) : Type 0 where
  pub below : least < n
  pub passes : test least ≡ true
  pub before : (k : ℕ) → k < least → test k ≡ false

-- what a first number says, and what none says
abbrev pub FirstIsLeast : Type 0
FirstIsLeast = (test : ℕ → Bool) (n : ℕ)
    → ((least : ℕ) → first_below test n ≡ Some least → IsLeastBelow test n least)
    × (first_below test n ≡ None → (k : ℕ) → k < n → test k ≡ false)

-- what the ports of a topology keep follows from its rules
abbrev pub TopologyTellsPorts : Type 0
TopologyTellsPorts = (topology : DeclaredTopology) → IsTopology topology → HasLawfulPorts topology
