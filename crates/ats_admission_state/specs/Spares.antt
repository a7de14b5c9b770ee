use Rattle.std.specs.Prelude.{◌≡◌, ℕ, ◌+◌, ◌/◌, ◌<◌, ◌≤◌, ◌≢◌, ◌==◌, true, List, length, sum_by, slice_index_or}
use Rattle.std.specs.Prelude.{unwrap_or, All, AllPairs}
use Rattle.std.specs.List.{list_any}
use Rattle.ats_class_table.specs.Table.{Table, value_at}
use Rattle.ats_admission_users.specs.Users.{ListsPaths, UsersState}
use Rattle.ats_admission_state.specs.Routes.{RouteState, bound_of, no_route, route_paths, ways_of}

-- a spare of a route: one more than how far the sum along each way is below the deadline, at least; 0 says nothing
abbrev pub IsSpare : Table ℕ → RouteState → ℕ → Type 0
IsSpare bounds route spare =
    0 < spare → All (λ way. sum_by (bound_of bounds) way + spare ≤ route.deadline + 1) (ways_of route)

-- a spare of each route, at the route's number
pub record AreSpares (bounds : Table ℕ) (routes : List RouteState) (spares : List ℕ) : Type 0 where
  pub count : length spares ≡ length routes
  pub each : (n : ℕ) → n < length routes
      → IsSpare bounds (slice_index_or routes n no_route) (slice_index_or spares n 0)

-- no way of a route has two places at one port
abbrev pub AreApart : RouteState → Type 0
AreApart route = All (λ way. AllPairs (λ p q. p / 8 ≢ q / 8) way) (ways_of route)

-- these are the users of each port among so many paths
pub record AreUsers (count : ℕ) (users : UsersState) : Type 0 where
  pub paths : List (List ℕ)
  pub many : length paths ≡ count
  pub lists : ListsPaths (length users.lists) paths users

-- these are the users of each port among routes whose ways have no port twice
pub record AreUsersOf (routes : List RouteState) (users : UsersState) : Type 0 where
  pub lists : ListsPaths (length users.lists) (route_paths routes) users
  pub apart : All AreApart routes

-- no bound at a port is greater than before by more than so much
abbrev pub RiseBy : ℕ → ℕ → Table ℕ → Table ℕ → Type 0
RiseBy rise port old new =
    (class : ℕ) → class ≤ 7
    → unwrap_or (value_at new port class) 0 ≤ unwrap_or (value_at old port class) 0 + rise

-- the spares at these numbers are less by so much, or 0, and none is greater
pub record AreLowered (numbers : List ℕ) (rise : ℕ) (old new : List ℕ) : Type 0 where
  pub count : length new ≡ length old
  pub most : (n : ℕ) → slice_index_or new n 0 ≤ slice_index_or old n 0
  pub lower : (n : ℕ) → list_any (λ m. m == n) numbers ≡ true → 0 < slice_index_or new n 0
      → slice_index_or new n 0 + rise ≤ slice_index_or old n 0

-- where bounds have become others, the spares of all routes of which these are the users have become spares by the new
-- ones
pub record KeepSpares (users : UsersState) (old new : Table ℕ) (before after : List ℕ) : Type 0 where
  pub count : length after ≡ length before
  pub each : (routes : List RouteState) → AreUsersOf routes users → AreSpares old routes before
      → AreSpares new routes after
