use Rattle.std.specs.Prelude.{◌≡◌, ◌≢◌, ℕ, ◌<◌, ◌≤◌, Bool, true, false, nat_lt, if◌then◌else◌}
use Rattle.std.specs.Prelude.{List, length, map, filter, Option, Some, None, slice_index_or}
use Rattle.std.specs.List.{list_any}
use Rattle.std.specs.Option.{ForSome, option_or}
use Rattle.ats_class_table.specs.Table.{Table, value_at}
use Rattle.ats_network.specs.Network.{DeclaredNetwork}
use Rattle.ats_certificate.specs.PortSums.{is_used}
use Rattle.ats_certificate.specs.Used.{place}
use Rattle.ats_tally.specs.Reason.{first_some}
use Rattle.ats_tally.specs.declared.reason.Reason.{Reason}
use Rattle.ats_bound.specs.Reason.{overload}
use Rattle.ats_admission_law.specs.Lowest.{lowest_found}
use Rattle.ats_admission_law.specs.Near.{found_there, overstay_at}
use Rattle.ats_admission_users.specs.Users.{has_port}
use Rattle.ats_admission_state.specs.Kept.{least_bound}
use Rattle.ats_admission_state.specs.Routes.{RouteState, is_late, no_route, ports_along}

-- what a search finds at a port and a class, where some stream uses them
abbrev pub given_at : (ℕ × ℕ → Option Reason) → DeclaredNetwork → ℕ → ℕ → Option Reason
given_at given network port class = if is_used network port class then given (port, class) else None

-- what it finds first at a port among these classes
abbrev pub found_among : (ℕ × ℕ → Option Reason) → DeclaredNetwork → ℕ → List ℕ → Option Reason
found_among given network port classes =
    first_some given (map (place port) (filter (λ class. is_used network port class) classes))

-- the bounds of all ports but this one stay
pub record KeepsOthers (port : ℕ) (old new : Table ℕ) : Type 0 where
  pub count : new.ports ≡ old.ports
  pub others : (p class : ℕ) → p ≢ port → value_at new p class ≡ value_at old p class

-- so they do, and the bounds of those classes of the port from 1 on that are below this one become the least
pub record SetsBelow (network : DeclaredNetwork) (port below : ℕ) (old new : Table ℕ) : Type 0 where
  pub kept : KeepsOthers port old new
  pub least : (class : ℕ) → 1 ≤ class → class < below
      → value_at new port class ≡ Some (least_bound network port class)

-- what is found against a network at the ports of a path: an overload, or else a need of residence
abbrev pub found_on : DeclaredNetwork → List ℕ → Option Reason
found_on network path =
    option_or (found_there (lowest_found (overload network) network path))
    (found_there (lowest_found (overstay_at network) network path))

-- the path of a route has a port of this path
abbrev pub meets : List ℕ → RouteState → Bool
meets path route = list_any (λ port. has_port port path) (ports_along route)

-- a number is below the one that was found, where one was
abbrev pub is_below : ℕ → Option ℕ → Bool
is_below n None = true
is_below n (Some found) = nat_lt n found

-- the route with this number is late by these bounds
pub record IsLateRoute (bounds : Table ℕ) (routes : List RouteState) (n : ℕ) : Type 0 where
  pub within : n < length routes
  pub late : is_late bounds (slice_index_or routes n no_route) ≡ true

-- the route that was found, if one was, is late, and of those whose paths have a port of this path none before it is
pub record FindsFirstLate (bounds : Table ℕ) (routes : List RouteState) (path : List ℕ) (found : Option ℕ)
    : Type 0 where
  pub late : ForSome found (IsLateRoute bounds routes)
  pub none_before : (n : ℕ) → n < length routes → is_below n found ≡ true
      → meets path (slice_index_or routes n no_route) ≡ true
      → is_late bounds (slice_index_or routes n no_route) ≡ false

-- a route was found before, and one is found with the route with this number: where that is late, none behind it
pub record LooksAt (bounds : Table ℕ) (routes : List RouteState) (n : ℕ) (before found : Option ℕ) : Type 0 where
  pub late : ForSome before (IsLateRoute bounds routes) → ForSome found (IsLateRoute bounds routes)
  pub below : (m : ℕ) → is_below m found ≡ true → is_below m before ≡ true
  pub own : is_below n found ≡ true → is_late bounds (slice_index_or routes n no_route) ≡ false
