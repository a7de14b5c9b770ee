use Rattle.std.specs.Prelude.{◌≡◌, ◌⊎◌, ℕ, ◌<◌, ◌≤◌, IsTrue, List, ◌∷◌, ◌++◌, All, Option}
use Rattle.ats_num.specs.declared.time.TheConstants.{PS_PER_SECOND}
use Rattle.ats_streams.specs.Stream.{DeclaredStream}
use Rattle.ats_network.specs.Network.{DeclaredNetwork}
use Rattle.ats_network.specs.Listeners.{Listener, listeners_of}
use Rattle.ats_certificate.specs.PortSums.{is_used}
use Rattle.ats_certificate.specs.Certificate.{MayStay, MeetsDeadline, IsInTime, bound_on}
use Rattle.ats_certificate.specs.Least.{IsLeastCertificate}
use Rattle.ats_certificate.specs.declared.row.Row.{Row}
use Rattle.ats_tally.specs.Reason.{row_need}
use Rattle.ats_tally.specs.declared.reason.Reason.{Reason}
use Rattle.ats_tally.specs.declared.reason.Reason.TheVariants.{Overloaded, Residence, Deadline}
use Rattle.ats_bound.specs.Reason.{load_at}

-- the first of a list that breaks a rule: each before it keeps the rule
pub record IsFirstBreach {A : Type 0} (Rule : A → Type 0) (xs : List A) (x : A) : Type 0 where
  pub before : List A
  pub after : List A
  pub cut : before ++ x ∷ after ≡ xs
  pub kept : All Rule before
  pub breaks : ¬ Rule x

-- a frame may stay behind a row's port as long as the row's wait and the port's spread make it
abbrev pub RowMayStay : DeclaredNetwork → Row → Type 0
RowMayStay network row = MayStay network row.port row.wait

-- some stream of the class uses the port, and the load there is this one, more than the whole link; that of each used
-- port and class that comes before fits the link
pub record IsFirstOverload (network : DeclaredNetwork) (port class load : ℕ) : Type 0 where
  pub used : IsTrue (is_used network port class)
  pub load_is : load_at network (port, class) ≡ load
  pub over : PS_PER_SECOND < load
  pub before : (p c : ℕ) → IsTrue (is_used network p c) → (p < port) ⊎ ((p ≡ port) × (c < class))
      → load_at network (p, c) ≤ PS_PER_SECOND

-- there is the least certificate, whose rows cover all ports and classes that are used, so none is overloaded; its row
-- of this port and class is the first by which a frame may have to stay behind the row's port longer than it may, and
-- needs this long
pub record IsFirstOverstay (network : DeclaredNetwork) (port class need : ℕ) : Type 0 where
  pub rows : List Row
  pub least : IsLeastCertificate network rows
  pub row : Row
  pub port_is : row.port ≡ port
  pub class_is : row.class ≡ class
  pub need_is : row_need network row ≡ need
  pub first : IsFirstBreach (RowMayStay network) rows row

-- of the streams the one of this name is the first that is not in time for each of its listeners by these rows; of its
-- listeners the one of this name is the first for which the bounds along the route there are together over its
-- deadline, and this is their sum
pub record IsFirstOverdue (network : DeclaredNetwork) (rows : List Row) (name : List ℕ) (listener : Option (List ℕ))
    (along : ℕ) : Type 0 where
  pub stream : DeclaredStream
  pub name_is : stream.name ≡ name
  pub first : IsFirstBreach (IsInTime rows) network.streams stream
  pub there : Listener
  pub listener_is : there.name ≡ listener
  pub first_there : IsFirstBreach (λ (l : Listener). MeetsDeadline stream (bound_on rows stream l.route))
      (listeners_of network.topology stream) there
  pub along_is : bound_on rows stream there.route ≡ along

-- there is the least certificate, and a frame may stay behind each row's port; this stream and this listener of it are
-- the first for which its bounds are together over the deadline
pub record IsFirstLate (network : DeclaredNetwork) (name : List ℕ) (listener : Option (List ℕ)) (along : ℕ)
    : Type 0 where
  pub rows : List Row
  pub least : IsLeastCertificate network rows
  pub stay : All (RowMayStay network) rows
  pub overdue : IsFirstOverdue network rows name listener along

-- a reason is the first against a network
abbrev pub IsFirstReason : DeclaredNetwork → Reason → Type 0
IsFirstReason network (Overloaded port class load) = IsFirstOverload network port class load
IsFirstReason network (Residence port class need) = IsFirstOverstay network port class need
IsFirstReason network (Deadline stream listener sum) = IsFirstLate network stream listener sum
