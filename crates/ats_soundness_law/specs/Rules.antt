use Rattle.std.specs.Prelude.{◌≡◌, ℕ, List, IsTrue, IsSome, All, AllPairs}
use Rattle.ats_topology.specs.Port.{port_at}
use Rattle.ats_network.specs.Network.{DeclaredNetwork}
use Rattle.ats_certificate.specs.PortSums.{port_sums, is_used}
use Rattle.ats_certificate.specs.Certificate.{row_of, bound_of, FitsLink, IsEnough, MayStay, IsBefore, IsInTime, Holds}
use Rattle.ats_certificate.specs.declared.row.Row.{Row}

-- what the bounds of a certificate rest on, one rule at a time: that each port and class that some stream uses has its
-- row, and of each row the five columns that say what the senders make of its port and class, the bound that follows,
-- and that the load, the wait and the residence fit
pub data Rule : Type 0 where
  rows_are_there : Rule
  higher_is_right : Rule
  equal_is_right : Rule
  bursts_are_right : Rule
  lower_is_right : Rule
  least_is_right : Rule
  bound_follows : Rule
  load_fits : Rule
  wait_is_enough : Rule
  frames_may_stay : Rule

-- the rows keep a rule
abbrev pub Keeps : Rule → DeclaredNetwork → List Row → Type 0
Keeps rows_are_there network given = (port class : ℕ) → IsTrue (is_used network port class)
    → IsSome (row_of given port class)
Keeps higher_is_right network given =
    All (λ (row : Row). row.higher ≡ (port_sums network row.port row.class).higher) given
Keeps equal_is_right network given = All (λ (row : Row). row.equal ≡ (port_sums network row.port row.class).equal) given
Keeps bursts_are_right network given =
    All (λ (row : Row). row.bursts ≡ (port_sums network row.port row.class).bursts) given
Keeps lower_is_right network given = All (λ (row : Row). row.lower ≡ (port_sums network row.port row.class).lower) given
Keeps least_is_right network given = All (λ (row : Row). row.least ≡ (port_sums network row.port row.class).least) given
Keeps bound_follows network given =
    All (λ (row : Row). row.bound ≡ bound_of (port_at network.topology.ports row.port) row.wait row.least) given
Keeps load_fits network given = All FitsLink given
Keeps wait_is_enough network given = All (λ (row : Row). IsEnough (port_at network.topology.ports row.port) row) given
Keeps frames_may_stay network given = All (λ (row : Row). MayStay network row.port row.wait) given

-- the rest, which no bound rests on: no row is of another port and class, the rows are in order, and each stream is in
-- time
pub record RestHolds (network : DeclaredNetwork) (given : List Row) : Type 0 where
  pub used : All (λ (row : Row). IsTrue (is_used network row.port row.class)) given
  pub ordered : AllPairs IsBefore given
  pub in_time : All (IsInTime given) network.streams

-- a certificate holds exactly where it keeps each rule and the rest holds
pub record AreRulesOf (network : DeclaredNetwork) (given : List Row) : Type 0 where
  pub kept : Holds network given → (rule : Rule) → Keeps rule network given
  pub rest : Holds network given → RestHolds network given
  pub enough : ((rule : Rule) → Keeps rule network given) → RestHolds network given → Holds network given

abbrev pub HoldsIsEachRule : Type 0
HoldsIsEachRule = (network : DeclaredNetwork) (given : List Row) → AreRulesOf network given
