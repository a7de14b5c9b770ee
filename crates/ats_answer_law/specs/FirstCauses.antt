use Rattle.std.specs.Prelude.{◌≡◌, ◌↔◌, ◌⊎◌, ℕ, ◌+◌, ◌*◌, ◌<◌, ◌≤◌, IsTrue, IsSome, List, [], ◌∷◌, ◌++◌, All}
use Rattle.std.specs.Prelude.{Option, None}
use Rattle.ats_num.specs.declared.time.TheConstants.{PS_PER_SECOND, PS_PER_NS}
use Rattle.ats_topology.specs.Port.{port_at, spread_of}
use Rattle.ats_streams.specs.Branches.{routes_of}
use Rattle.ats_streams.specs.Stream.{DeclaredStream}
use Rattle.ats_network.specs.Network.{DeclaredNetwork}
use Rattle.ats_network.specs.Listeners.{Listener, listeners_of}
use Rattle.ats_network.specs.Rates.{clock_behind}
use Rattle.ats_certificate.specs.PortSums.{port_sums, is_used}
use Rattle.ats_certificate.specs.Certificate.{Covers, HasRows, IsEnough, MayStay, RowHolds, bound_on, need_by, row_of}
use Rattle.ats_certificate.specs.Least.{IsLeastCertificate, IsLeastRow}
use Rattle.ats_certificate.specs.declared.row.Row.{Row}
use Rattle.ats_tally.specs.declared.reason.Reason.TheVariants.{Overloaded, Residence, Deadline}
use Rattle.ats_bound.specs.First.{IsFirstOverdue, IsFirstReason}
use Rattle.ats_checker.specs.First.{IsFirst, IsRight, due, said}
use Rattle.ats_checker.specs.declared.refusal.Field.{Field}
use Rattle.ats_checker.specs.declared.refusal.Field.TheVariants.{Higher, Equal, Bursts, Lower, Least, Bound}
use Rattle.ats_checker.specs.declared.refusal.Refusal.TheVariants.{RowMissing, RowStray, FieldWrong, WaitTooSmall}
use Rattle.ats_checker.specs.declared.refusal.Refusal.TheVariants.{Network}

-- What each reason against a network says, and each refusal of rows: which place, row or stream is the first, and what
-- the number is that is told of it. Each part is written out, and there are no others.

-- what the rates of a class and of those above it take of a port
abbrev pub taken_at : DeclaredNetwork → ℕ → ℕ → ℕ
taken_at network port class = (port_sums network port class).higher + (port_sums network port class).equal

-- the first place is that of the lower port, and of one port that of the lower class
abbrev pub ComesBefore : ℕ → ℕ → ℕ → ℕ → Type 0
ComesBefore p c port class = (p < port) ⊎ ((p ≡ port) × (c < class))

-- what a frame may have to stay behind a row's port, by the clock there
abbrev pub stay_behind : DeclaredNetwork → Row → ℕ
stay_behind network row =
    need_by (clock_behind network.topology row.port) (row.wait + spread_of (port_at network.topology.ports row.port))

-- the bounds along the route to a listener are together within the deadline of a stream
abbrev pub IsInTimeFor : List Row → DeclaredStream → Listener → Type 0
IsInTimeFor rows stream listener = bound_on rows stream listener.route ≤ PS_PER_NS * stream.deadline_ns

-- of some rows this one is the first that breaks a rule, and it is of this place
abbrev pub BreaksFirst : List Row → (Row → Type 0) → ℕ → ℕ → Row → Type 0
BreaksFirst rows Rule port class row =
    (row.port ≡ port) × (row.class ≡ class)
    × (before : List Row) × (after : List Row) × (before ++ row ∷ after ≡ rows) × All Rule before × (¬ Rule row)

-- of the streams, in their order, one is the first that is late, and of its listeners one the first for which it is
pub record OverdueIsMeant : Type 0 where
  pub first : (network : DeclaredNetwork) (rows : List Row) (name : List ℕ) (listener : Option (List ℕ)) (sum : ℕ)
      → IsFirstOverdue network rows name listener sum
      ↔ ((stream : DeclaredStream) × (there : Listener)
      × (before : List DeclaredStream) × (after : List DeclaredStream) × (before ++ stream ∷ after ≡ network.streams)
      × All (λ (s : DeclaredStream). All (λ route. bound_on rows s route ≤ PS_PER_NS * s.deadline_ns)
      (routes_of s.ports s.branches)) before
      × (¬ All (λ route. bound_on rows stream route ≤ PS_PER_NS * stream.deadline_ns)
      (routes_of stream.ports stream.branches))
      × (served : List Listener) × (others : List Listener)
      × (served ++ there ∷ others ≡ listeners_of network.topology stream)
      × All (IsInTimeFor rows stream) served × (¬ IsInTimeFor rows stream there)
      × (stream.name ≡ name) × (there.name ≡ listener) × (bound_on rows stream there.route ≡ sum))

-- why no certificate holds for a network
pub record ReasonsAreMeant : Type 0 where
  pub overloaded : (network : DeclaredNetwork) (port class load : ℕ)
      → IsFirstReason network (Overloaded port class load)
      ↔ (IsTrue (is_used network port class) × (taken_at network port class ≡ load) × (PS_PER_SECOND < load)
      × ((p c : ℕ) → IsTrue (is_used network p c) → ComesBefore p c port class
      → taken_at network p c ≤ PS_PER_SECOND))
  pub residence : (network : DeclaredNetwork) (port class need : ℕ)
      → IsFirstReason network (Residence port class need)
      ↔ ((rows : List Row) × (row : Row) × IsLeastCertificate network rows
      × BreaksFirst rows (λ (r : Row). MayStay network r.port r.wait) port class row
      × (stay_behind network row ≡ need))
  pub deadline : (network : DeclaredNetwork) (name : List ℕ) (listener : Option (List ℕ)) (sum : ℕ)
      → IsFirstReason network (Deadline name listener sum)
      ↔ ((rows : List Row) × IsLeastCertificate network rows × All (λ (r : Row). MayStay network r.port r.wait) rows
      × IsFirstOverdue network rows name listener sum)

-- what a row says, and what it should say
pub record FieldsAreMeant : Type 0 where
  pub said : (row : Row) → (said row Higher ≡ row.higher) × (said row Equal ≡ row.equal)
      × (said row Bursts ≡ row.bursts) × (said row Lower ≡ row.lower) × (said row Least ≡ row.least)
      × (said row Bound ≡ row.bound)
  pub due : (network : DeclaredNetwork) (row : Row)
      → (due network row Higher ≡ (port_sums network row.port row.class).higher)
      × (due network row Equal ≡ (port_sums network row.port row.class).equal)
      × (due network row Bursts ≡ (port_sums network row.port row.class).bursts)
      × (due network row Lower ≡ (port_sums network row.port row.class).lower)
      × (due network row Least ≡ (port_sums network row.port row.class).least)
      × (due network row Bound
      ≡ row.wait + (port_at network.topology.ports row.port).ps_per_bit * row.least
      + (port_at network.topology.ports row.port).latency.0)
  pub right : (network : DeclaredNetwork) (row : Row)
      → IsRight network row
      ↔ ((row.higher ≡ (port_sums network row.port row.class).higher)
      × (row.equal ≡ (port_sums network row.port row.class).equal)
      × (row.bursts ≡ (port_sums network row.port row.class).bursts)
      × (row.lower ≡ (port_sums network row.port row.class).lower)
      × (row.least ≡ (port_sums network row.port row.class).least)
      × (row.bound ≡ row.wait + (port_at network.topology.ports row.port).ps_per_bit * row.least
      + (port_at network.topology.ports row.port).latency.0))

-- why rows do not hold
pub record RefusalsAreMeant : Type 0 where
  pub missing : (network : DeclaredNetwork) (rows : List Row) (port class : ℕ)
      → IsFirst network rows (RowMissing port class)
      ↔ (IsTrue (is_used network port class) × (row_of rows port class ≡ None)
      × ((p c : ℕ) → IsTrue (is_used network p c) → ComesBefore p c port class → IsSome (row_of rows p c)))
  pub stray : (network : DeclaredNetwork) (rows : List Row) (port class : ℕ)
      → IsFirst network rows (RowStray port class)
      ↔ (((p c : ℕ) → IsTrue (is_used network p c) → IsSome (row_of rows p c))
      × (row : Row) × BreaksFirst rows (λ (r : Row). IsTrue (is_used network r.port r.class)) port class row)
  pub field : (network : DeclaredNetwork) (rows : List Row) (port class right : ℕ) (field : Field)
      → IsFirst network rows (FieldWrong port class field right)
      ↔ (HasRows network rows × All (λ (r : Row). IsTrue (is_used network r.port r.class)) rows
      × (row : Row) × BreaksFirst rows (IsRight network) port class row
      × (before : List Field) × (after : List Field)
      × (before ++ field ∷ after ≡ Higher ∷ Equal ∷ Bursts ∷ Lower ∷ Least ∷ Bound ∷ [])
      × All (λ (f : Field). said row f ≡ due network row f) before × (¬ (said row field ≡ due network row field))
      × (right ≡ due network row field))
  pub overloaded : (network : DeclaredNetwork) (rows : List Row) (port class load : ℕ)
      → IsFirst network rows (Network (Overloaded port class load))
      ↔ (HasRows network rows × All (IsRight network) rows
      × (row : Row) × BreaksFirst rows (λ (r : Row). r.higher + r.equal ≤ PS_PER_SECOND) port class row
      × (load ≡ row.higher + row.equal))
  pub wait : (network : DeclaredNetwork) (rows : List Row) (port class least : ℕ)
      → IsFirst network rows (WaitTooSmall port class least)
      ↔ (HasRows network rows × All (λ (r : Row). IsRight network r × (r.higher + r.equal ≤ PS_PER_SECOND)) rows
      × (row : Row) × BreaksFirst rows (λ (r : Row). IsEnough (port_at network.topology.ports r.port) r) port class row
      × IsLeastRow network (record row {
        wait = least;
        bound = least + (port_at network.topology.ports row.port).ps_per_bit * row.least
            + (port_at network.topology.ports row.port).latency.0;
      }))
  pub residence : (network : DeclaredNetwork) (rows : List Row) (port class need : ℕ)
      → IsFirst network rows (Network (Residence port class need))
      ↔ (HasRows network rows × All (Covers network) rows
      × (row : Row) × BreaksFirst rows (λ (r : Row). MayStay network r.port r.wait) port class row
      × (need ≡ stay_behind network row))
  pub deadline : (network : DeclaredNetwork) (rows : List Row) (name : List ℕ) (listener : Option (List ℕ)) (sum : ℕ)
      → IsFirst network rows (Network (Deadline name listener sum))
      ↔ (HasRows network rows × All (RowHolds network) rows × IsFirstOverdue network rows name listener sum)

pub record FirstCausesAreMeant : Type 0 where
  pub overdue : OverdueIsMeant
  pub reasons : ReasonsAreMeant
  pub fields : FieldsAreMeant
  pub refusals : RefusalsAreMeant
