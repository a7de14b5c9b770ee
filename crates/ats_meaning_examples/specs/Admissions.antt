use Rattle.std.specs.Prelude.{◌≡◌, ◌↔◌, ℕ, ◌<◌, ◌≤◌, List, [], ◌∷◌, ◌++◌, length, slice_index_or, All, Contains}
use Rattle.std.specs.Prelude.{◌+◌, ◌==◌, IsTrue, Some, None, Ok, Err, false, if◌then◌else◌}
use Rattle.std.specs.List.{list_any}
use Rattle.ats_streams.specs.Branches.{routes_of}
use Rattle.ats_streams.specs.Stream.{DeclaredStream, IsStream, with_class}
use Rattle.ats_network.specs.Edits.{IsLess, no_stream}
use Rattle.ats_network.specs.Network.{DeclaredNetwork, IsNetwork}
use Rattle.ats_network.specs.Path.{IsTree}
use Rattle.ats_certificate.specs.PortSums.{is_used, port_sums}
use Rattle.ats_tally.specs.declared.reason.Reason.{Reason}
use Rattle.ats_bound.specs.Least.{least_row}
use Rattle.ats_bound.specs.Reason.{load_at, reason_of}
use Rattle.ats_class_table.specs.Table.{Table, value_at}
use Rattle.ats_admission_users.specs.Users.{has_port}
use Rattle.ats_admission_state.specs.Kept.{AreLeastBeside}
use Rattle.ats_admission_state.specs.Laws.{StayBeside}
use Rattle.ats_admission_law.specs.Laws.{Falls, StaysSame}
use Rattle.ats_admission_law.specs.Less.{IsLessBy}
use Rattle.ats_admission_law.specs.Near.{AreNear, IsNear, shares}
use Rattle.ats_requests.specs.Admission.{admit}
use Rattle.ats_requests.specs.Laws.{AreReasons, IsCertified, IsDeniedWith, IsFirstAccepted, StaysCertified}
use Rattle.ats_requests.specs.Requests.{MayAsk, MayEnter}
use Rattle.ats_requests.specs.declared.denied.Denied.TheVariants.{Because}
use Rattle.ats_requests.specs.declared.request.Request.TheVariants.{Admit, Lowest, Withdraw}

-- What laws ask and conclude of streams that come and go, and of requests, part by part, both ways.

-- streams less one, and networks that differ by one; of a port and a class what falls without it, and what stays where
-- it does not use the port; and which streams are near another one
pub record OneLessIsMeant : Type 0 where
  pub streams : (old new : List DeclaredStream) (x : DeclaredStream) → IsLess old new x
      ↔ ((front : List DeclaredStream) × (back : List DeclaredStream) × (old ≡ front ++ x ∷ back)
      × (new ≡ front ++ back))
  pub network : (old new : DeclaredNetwork) (x : DeclaredStream) → IsLessBy old new x
      ↔ ((new.topology ≡ old.topology) × (new.most_ports ≡ old.most_ports) × (new.flows ≡ old.flows)
      × IsLess old.streams new.streams x)
  pub falls : (old new : DeclaredNetwork) (place : ℕ × ℕ) → Falls old new place
      ↔ (IsTrue (is_used old place.0 place.1) × (load_at new place ≤ load_at old place)
      × ((least_row new place).wait ≤ (least_row old place).wait)
      × ((least_row new place).bound ≤ (least_row old place).bound))
  pub same : (old new : DeclaredNetwork) (place : ℕ × ℕ) → StaysSame old new place
      ↔ ((port_sums new place.0 place.1 ≡ port_sums old place.0 place.1)
      × (is_used new place.0 place.1 ≡ is_used old place.0 place.1) × (least_row new place ≡ least_row old place))

-- bounds are the least ones beside a path where they are so at each port that is not on it; and beside the ports of a
-- stream they stay so with it and without it
pub record BesideIsMeant : Type 0 where
  pub least : (network : DeclaredNetwork) (path : List ℕ) (bounds : Table ℕ) → AreLeastBeside network path bounds
      ↔ ((bounds.ports ≡ length network.topology.ports)
      × ((port class : ℕ) → port < length network.topology.ports → 1 ≤ class → class ≤ 7 → has_port port path ≡ false
      → value_at bounds port class
      ≡ Some (if is_used network port class then (least_row network (port, class)).bound else 0)))
  pub stay : (old new : DeclaredNetwork) (x : DeclaredStream) (bounds : Table ℕ) → StayBeside old new x bounds
      ↔ ((AreLeastBeside old x.ports bounds → AreLeastBeside new x.ports bounds)
      × (AreLeastBeside new x.ports bounds → AreLeastBeside old x.ports bounds))

-- streams share where some port is one of both; and streams are near another one by their numbers, in any order
pub record NearIsMeant : Type 0 where
  pub sharing : (x s : DeclaredStream) → IsTrue (shares x s)
      ↔ ((port : ℕ) × Contains s.ports port × Contains x.ports port)
  pub one : (network : DeclaredNetwork) (x : DeclaredStream) (n : ℕ) → IsNear network x n
      ↔ ((n < length network.streams) × IsTrue (shares x (slice_index_or network.streams n no_stream)))
  pub all : (network : DeclaredNetwork) (x : DeclaredStream) (numbers : List ℕ) → AreNear network x numbers
      ↔ (All (IsNear network x) numbers
      × ((n : ℕ) → IsNear network x n → IsTrue (list_any (λ m. m == n) numbers)))

-- for which networks a certificate holds, and stays; which class is the first that is accepted, and which reasons there
-- are where none is
pub record AnsweringIsMeant : Type 0 where
  pub certified : (network : DeclaredNetwork) → IsCertified network ↔ (IsNetwork network × (reason_of network ≡ None))
  pub stays : (old new : DeclaredNetwork) → StaysCertified old new
      ↔ ((new.topology ≡ old.topology) × (new.most_ports ≡ old.most_ports) × IsCertified new)
  pub denied : (network : DeclaredNetwork) (stream : DeclaredStream) (class : ℕ) → IsDeniedWith network stream class
      ↔ ((reason : Reason) × (admit network (with_class stream class) ≡ Err (Because reason)))
  pub first : (network : DeclaredNetwork) (stream : DeclaredStream) (class sum : ℕ)
      → IsFirstAccepted network stream class sum
      ↔ ((1 ≤ class) × (class ≤ 7) × (admit network (with_class stream class) ≡ Ok sum)
      × ((c : ℕ) → 1 ≤ c → c < class → IsDeniedWith network stream c))
  pub reasons : (network : DeclaredNetwork) (stream : DeclaredStream) (reasons : List Reason)
      → AreReasons network stream reasons
      ↔ ((length reasons ≡ 7) × ((n : ℕ) (d : Reason) → n < 7
      → admit network (with_class stream (n + 1)) ≡ Err (Because (slice_index_or reasons n d))))

-- which streams may be asked for: refuses a premise beside these, as that the network has no flows
pub record AskingIsMeant : Type 0 where
  pub stream : (network : DeclaredNetwork) (stream : DeclaredStream) → MayEnter network stream
      ↔ (IsStream stream × IsTree network.topology stream.ports stream.branches
      × All (λ route. length route ≤ network.most_ports) (routes_of stream.ports stream.branches)
      × (stream.branches ≡ []) × (stream.identity ≡ None))
  pub with_class : (network : DeclaredNetwork) (stream : DeclaredStream) → MayAsk network (Admit stream)
      ↔ MayEnter network stream
  pub lowest : (network : DeclaredNetwork) (stream : DeclaredStream) → MayAsk network (Lowest stream)
      ↔ MayEnter network stream
  pub withdrawn : (network : DeclaredNetwork) (name : List ℕ) → MayAsk network (Withdraw name)

pub record AdmissionsAreMeant : Type 0 where
  pub one_less : OneLessIsMeant
  pub beside : BesideIsMeant
  pub near : NearIsMeant
  pub answering : AnsweringIsMeant
  pub asking : AskingIsMeant
