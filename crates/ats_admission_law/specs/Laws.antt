use Rattle.std.specs.Prelude.{◌≡◌, ℕ, ◌<◌, ◌≤◌, false, IsTrue, List, length, All, Option, None}
use Rattle.ats_num.specs.declared.time.TheConstants.{PS_PER_SECOND}
use Rattle.ats_streams.specs.Stream.{DeclaredStream}
use Rattle.ats_network.specs.Sender.{stream_sender}
use Rattle.ats_network.specs.Network.{DeclaredNetwork, IsNetwork}
use Rattle.ats_certificate.specs.PortSums.{uses, port_sums, is_used}
use Rattle.ats_certificate.specs.Certificate.{Holds, bound_on, sums_of}
use Rattle.ats_certificate.specs.declared.row.Row.{Row}
use Rattle.ats_tally.specs.declared.reason.Reason.{Reason}
use Rattle.ats_bound.specs.Least.{least_row, least_certificate}
use Rattle.ats_bound.specs.Reason.{load_at, reason_of}
use Rattle.ats_admission_law.specs.Less.{IsLessBy}
use Rattle.ats_admission_law.specs.Lowest.{lowest_found, first_found}
use Rattle.ats_admission_law.specs.Near.{AreNear, found_there, late_near, lowest_late, shares}
use Rattle.ats_admission_law.specs.Near.{reason_along, reason_judged}

-- a network less one stream is a network
abbrev pub LessIsNetwork : Type 0
LessIsNetwork = (old new : DeclaredNetwork) (x : DeclaredStream) → IsLessBy old new x → IsNetwork old → IsNetwork new

-- what a port and class that some stream uses keep when a stream is taken out: they were used, and neither the load,
-- nor the least wait, nor the least bound rises
pub record Falls (old new : DeclaredNetwork) (place : ℕ × ℕ) : Type 0 where
  pub used : IsTrue (is_used old place.0 place.1)
  pub load : load_at new place ≤ load_at old place
  pub wait : (least_row new place).wait ≤ (least_row old place).wait
  pub bound : (least_row new place).bound ≤ (least_row old place).bound

-- so it is where the class and those above it fitted the link
abbrev pub NothingRises : Type 0
NothingRises =
    (old new : DeclaredNetwork) (x : DeclaredStream) (port class : ℕ) → IsLessBy old new x → IsNetwork old
    → load_at old (port, class) ≤ PS_PER_SECOND → IsTrue (is_used new port class) → Falls old new (port, class)

-- and no sum of a stream's least bounds along a route rises
abbrev pub NoSumRises : Type 0
NoSumRises =
    (old new : DeclaredNetwork) (x s : DeclaredStream) (route : List ℕ) → IsLessBy old new x → IsNetwork old
    → reason_of old ≡ None
    → bound_on (least_certificate new) s route ≤ bound_on (least_certificate old) s route

-- where a network has no reason against it, it has none less one stream
abbrev pub LessHasNoReason : Type 0
LessHasNoReason =
    (old new : DeclaredNetwork) (x : DeclaredStream) → IsLessBy old new x → IsNetwork old → reason_of old ≡ None
    → reason_of new ≡ None

-- where a certificate of a network holds, the least certificate of the network less one stream holds
abbrev pub LessHolds : Type 0
LessHolds =
    (old new : DeclaredNetwork) (x : DeclaredStream) (rows : List Row) → IsLessBy old new x → IsNetwork old
    → Holds old rows → Holds new (least_certificate new)

-- a port that the stream does not use is what it was: so are its sums, the classes that are used there, and its rows
pub record StaysSame (old new : DeclaredNetwork) (place : ℕ × ℕ) : Type 0 where
  pub sums : port_sums new place.0 place.1 ≡ port_sums old place.0 place.1
  pub used : is_used new place.0 place.1 ≡ is_used old place.0 place.1
  pub row : least_row new place ≡ least_row old place

abbrev pub OtherPortsStay : Type 0
OtherPortsStay =
    (old new : DeclaredNetwork) (x : DeclaredStream) (port class : ℕ) → IsLessBy old new x
    → uses port (stream_sender x) ≡ false → StaysSame old new (port, class)

-- so is the sum of the least bounds along each route of a stream that shares no port with it
abbrev pub OtherSumsStay : Type 0
OtherSumsStay =
    (old new : DeclaredNetwork) (x s : DeclaredStream) → IsLessBy old new x → IsNetwork old → shares x s ≡ false
    → sums_of (least_certificate new) s ≡ sums_of (least_certificate old) s

-- where a network has no reason against it, the reason against the network with one stream more is the first along that
-- stream's ports
abbrev pub ReasonIsAlong : Type 0
ReasonIsAlong =
    (old new : DeclaredNetwork) (x : DeclaredStream) → IsLessBy old new x → IsNetwork old → reason_of new ≡ None
    → reason_of old ≡ reason_along old x

-- the lowest port of a path at which a search finds anything, and what it finds there first, are what it finds first
-- among the ports of the path in the order of a certificate's rows
abbrev pub PathFindsFirst : Type 0
PathFindsFirst =
    (given : ℕ × ℕ → Option Reason) (network : DeclaredNetwork) (path : List ℕ)
    → All (λ port. port < length network.topology.ports) path
    → first_found given network path ≡ found_there (lowest_found given network path)

-- so the reason against a network with one stream more is found port by port along that stream's ports
abbrev pub ReasonIsJudged : Type 0
ReasonIsJudged =
    (old new : DeclaredNetwork) (x : DeclaredStream) → IsLessBy old new x → IsNetwork old → reason_of new ≡ None
    → reason_of old ≡ reason_judged old x

-- and the late stream that is named is the one with the lowest number, in whichever order they are looked at
abbrev pub NearFindsLate : Type 0
NearFindsLate =
    (network : DeclaredNetwork) (x : DeclaredStream) (numbers : List ℕ) → AreNear network x numbers
    → late_near network x ≡ found_there (lowest_late network numbers)
