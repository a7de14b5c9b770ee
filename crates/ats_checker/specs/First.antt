use Rattle.std.specs.Prelude.{◌≡◌, ◌⊎◌, ℕ, ◌+◌, ◌<◌, IsTrue, IsSome, List, [], ◌∷◌, All, Option, None}
use Rattle.ats_topology.specs.Port.{port_at}
use Rattle.ats_network.specs.Network.{DeclaredNetwork}
use Rattle.ats_certificate.specs.PortSums.{port_sums, is_used}
use Rattle.ats_certificate.specs.Certificate.{HasRows, HasSums, FitsLink, IsEnough, MayStay, Covers, RowHolds}
use Rattle.ats_certificate.specs.Certificate.{is_row_of, row_of, bound_of, need_behind}
use Rattle.ats_certificate.specs.Least.{IsLeastRow}
use Rattle.ats_certificate.specs.declared.row.Row.{Row}
use Rattle.ats_tally.specs.declared.reason.Reason.{Reason}
use Rattle.ats_tally.specs.declared.reason.Reason.TheVariants.{Overloaded, Residence, Deadline}
use Rattle.ats_bound.specs.First.{IsFirstBreach, IsFirstOverdue}
use Rattle.ats_checker.specs.declared.refusal.Field.{Field}
use Rattle.ats_checker.specs.declared.refusal.Field.TheVariants.{Higher, Equal, Bursts, Lower, Least, Bound}
use Rattle.ats_checker.specs.declared.refusal.Refusal.{Refusal}
use Rattle.ats_checker.specs.declared.refusal.Refusal.TheVariants.{RowMissing, RowStray, FieldWrong, WaitTooSmall}
use Rattle.ats_checker.specs.declared.refusal.Refusal.TheVariants.{Network}

-- a row's port is used by some stream of its class
abbrev pub IsUsed : DeclaredNetwork → Row → Type 0
IsUsed network row = IsTrue (is_used network row.port row.class)

-- a row says what the senders make of its port and class, and the bound that follows
pub record IsRight (network : DeclaredNetwork) (row : Row) : Type 0 where
  pub sums : HasSums row (port_sums network row.port row.class)
  pub bound : row.bound ≡ bound_of (port_at network.topology.ports row.port) row.wait row.least

-- the fields in the order in which they are judged, what a row says in each, and what it should say there
abbrev pub fields : List Field
fields = Higher ∷ Equal ∷ Bursts ∷ Lower ∷ Least ∷ Bound ∷ []

abbrev pub said : Row → Field → ℕ
said row Higher = row.higher
said row Equal = row.equal
said row Bursts = row.bursts
said row Lower = row.lower
said row Least = row.least
said row Bound = row.bound

abbrev pub due : DeclaredNetwork → Row → Field → ℕ
due network row Higher = (port_sums network row.port row.class).higher
due network row Equal = (port_sums network row.port row.class).equal
due network row Bursts = (port_sums network row.port row.class).bursts
due network row Lower = (port_sums network row.port row.class).lower
due network row Least = (port_sums network row.port row.class).least
due network row Bound = bound_of (port_at network.topology.ports row.port) row.wait row.least

-- some stream of the class uses the port, and no row is theirs; each used port and class that comes before has its row
pub record IsMissing (network : DeclaredNetwork) (rows : List Row) (port class : ℕ) : Type 0 where
  pub used : IsTrue (is_used network port class)
  pub none : row_of rows port class ≡ None
  pub before : (p c : ℕ) → IsTrue (is_used network p c)
      → (p < port) ⊎ ((p ≡ port) × (c < class)) → IsSome (row_of rows p c)

-- each used port and class has its row; the row of this port and class is the first that no stream uses
pub record IsStray (network : DeclaredNetwork) (rows : List Row) (port class : ℕ) : Type 0 where
  pub complete : (p c : ℕ) → IsTrue (is_used network p c) → IsSome (row_of rows p c)
  pub row : Row
  pub place : IsTrue (is_row_of port class row)
  pub first : IsFirstBreach (IsUsed network) rows row

-- what the next four share: the rows are those of the network, and each keeps the rules that come before; the row of
-- this port and class is the first that breaks the rule
pub record IsRowAtFault (network : DeclaredNetwork) (rows : List Row) (Earlier Rule : Row → Type 0)
    (port class : ℕ) (row : Row) : Type 0 where
  pub rows_of : HasRows network rows
  pub kept : All Earlier rows
  pub place : IsTrue (is_row_of port class row)
  pub first : IsFirstBreach Rule rows row

-- a row is not right; this field is the first that does not say what it should, which is this
pub record IsWrong (network : DeclaredNetwork) (rows : List Row)
    (port class : ℕ) (field : Field) (right : ℕ) : Type 0 where
  pub row : Row
  pub fault : IsRowAtFault network rows (IsUsed network) (IsRight network) port class row
  pub first : IsFirstBreach (λ (f : Field). said row f ≡ due network row f) fields field
  pub is : right ≡ due network row field

-- each row is right; one has a load that does not fit the link
pub record IsOverload (network : DeclaredNetwork) (rows : List Row) (port class load : ℕ) : Type 0 where
  pub row : Row
  pub fault : IsRowAtFault network rows (IsRight network) FitsLink port class row
  pub is : load ≡ row.higher + row.equal

-- each is right and fits; one has a wait that is not enough. This is the least wait that is: with it, and the bound
-- that follows, the row would cover its port and class, and with no shorter one
pub record IsShort (network : DeclaredNetwork) (rows : List Row) (port class wait : ℕ) : Type 0 where
  pub row : Row
  pub fault : IsRowAtFault network rows (λ (r : Row). IsRight network r × FitsLink r)
      (λ (r : Row). IsEnough (port_at network.topology.ports r.port) r) port class row
  pub is : IsLeastRow network (record row {
    wait = wait;
    bound = bound_of (port_at network.topology.ports row.port) wait row.least;
  })

-- each covers its port and class; one asks that a frame may stay longer behind its port than it may. This is what it
-- asks: its wait, and the port's spread
pub record IsOverstay (network : DeclaredNetwork) (rows : List Row) (port class need : ℕ) : Type 0 where
  pub row : Row
  pub fault : IsRowAtFault network rows (Covers network) (λ (r : Row). MayStay network r.port r.wait) port class row
  pub is : need ≡ need_behind network row.port row.wait

-- the rows are those of the network, and each holds; this stream and this listener of it are the first for which their
-- bounds are together over the deadline
pub record IsLate (network : DeclaredNetwork) (rows : List Row) (name : List ℕ) (listener : Option (List ℕ)) (along : ℕ)
    : Type 0 where
  pub rows_of : HasRows network rows
  pub kept : All (RowHolds network) rows
  pub overdue : IsFirstOverdue network rows name listener along

-- what each reason of the network says of rows
abbrev pub IsFirstReasonOfRows : DeclaredNetwork → List Row → Reason → Type 0
IsFirstReasonOfRows network rows (Overloaded port class load) = IsOverload network rows port class load
IsFirstReasonOfRows network rows (Residence port class need) = IsOverstay network rows port class need
IsFirstReasonOfRows network rows (Deadline stream listener sum) = IsLate network rows stream listener sum

-- what each refusal says of them
abbrev pub IsFirst : DeclaredNetwork → List Row → Refusal → Type 0
IsFirst network rows (RowMissing port class) = IsMissing network rows port class
IsFirst network rows (RowStray port class) = IsStray network rows port class
IsFirst network rows (FieldWrong port class field right) = IsWrong network rows port class field right
IsFirst network rows (WaitTooSmall port class least) = IsShort network rows port class least
IsFirst network rows (Network reason) = IsFirstReasonOfRows network rows reason
