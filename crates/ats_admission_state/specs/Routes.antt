use Rattle.std.specs.Prelude.{ℕ, ◌+◌, ◌*◌, ◌/◌, ◌%◌, ◌<◌, ◌^◌, Bool, nat_lt, List, [], ◌∷◌, map, sum_by, All, unwrap_or}
use Rattle.std.specs.Prelude.{◌≤◌, Option, Some, None, take}
use Rattle.std.specs.List.{list_any}
use Rattle.std.specs.Global.{Box}
use Rattle.ats_num.specs.declared.time.TheConstants.{PS_PER_NS}
use Rattle.ats_class_table.specs.Table.{Table, value_at}
use Rattle.ats_streams.specs.Branches as legs
use Rattle.ats_streams.specs.Path.{IsPath}
use Rattle.ats_streams.specs.Stream.{DeclaredStream}
use Rattle.ats_streams.specs.declared.branch.Branch.{Branch}
use Rattle.ats_network.specs.Network.{DeclaredNetwork}
use Rattle.ats_admission_state.specs.declared.routes.Held.{Held}
use Rattle.ats_admission_state.specs.declared.routes.Tree.{Tree}
use Rattle.ats_streams.specs.declared.path.TheConstants.{MAX_PORTS}

-- an array of places has room for so many
abbrev pub HasRoom : ℕ → Type 0
HasRoom count = count ≤ MAX_PORTS

-- where the bounds of a stream stand, in the order of its ports, its branches, by which these make a route to each
-- listener, and its deadline in picoseconds
pub record RouteState : Type 0 where
  pub places : List ℕ
  pub branches : List Branch
  pub deadline : ℕ

-- those of a stream with one listener, whose places these are, or with several, whose tree there is
abbrev pub route_state : List ℕ → Option (Box Tree) → ℕ → RouteState
route_state path None deadline = record { places = path; branches = []; deadline = deadline }
route_state path (Some tree) deadline =
    record { places = tree.value.places.items; branches = tree.value.branches.items; deadline = deadline }

-- those of a stream, from what its route holds
abbrev pub held_state : Held → RouteState
held_state h = route_state (take h.count h.places) h.tree h.deadline.0

-- for places past the last route
abbrev pub no_route : RouteState
no_route = record { places = []; branches = []; deadline = 0 }

-- the places of ports with the class at each: of a port and a class, 8 * port + class
abbrev pub places_along : List ℕ → List ℕ → List ℕ
places_along [] classes = []
places_along (port ∷ path) [] = []
places_along (port ∷ path) (class ∷ classes) = (8 * port + class) ∷ places_along path classes

-- the routes of a stream, and those of a network's streams
abbrev pub route_of : DeclaredStream → RouteState
route_of s =
    record { places = places_along s.ports s.classes; branches = s.branches; deadline = PS_PER_NS * s.deadline_ns }

abbrev pub routes_of : DeclaredNetwork → List RouteState
routes_of network = map route_of network.streams

-- the ports of a stream's routes, and those of several streams
abbrev pub ports_along : RouteState → List ℕ
ports_along route = map (λ place. place / 8) route.places

abbrev pub route_paths : List RouteState → List (List ℕ)
route_paths routes = map ports_along routes

-- the bound at a place; 0 where there is none
abbrev pub bound_of : Table ℕ → ℕ → ℕ
bound_of bounds place = unwrap_or (value_at bounds (place / 8) (place % 8)) 0

-- the places along the route to each listener, leg by leg
abbrev pub ways_of : RouteState → List (List ℕ)
ways_of route = legs.routes_of route.places route.branches

-- the sum of the bounds along the route to the listener of a leg
abbrev pub sum_along : Table ℕ → RouteState → ℕ → ℕ
sum_along bounds route leg = sum_by (bound_of bounds) (legs.leg_at (ways_of route) leg)

-- the sum along a route is over the deadline
abbrev pub is_over : Table ℕ → RouteState → List ℕ → Bool
is_over bounds route way = nat_lt route.deadline (sum_by (bound_of bounds) way)

-- so it is for some listener
abbrev pub is_late : Table ℕ → RouteState → Bool
is_late bounds route = list_any (is_over bounds route) (ways_of route)

-- the branches cut the places into legs, and each route has 1 to 64
pub record IsRoute (route : RouteState) : Type 0 where
  pub branches_are : legs.AreBranches route.places route.branches
  pub paths : All IsPath (ways_of route)

-- a place has a bound of at most 36 digits
pub record IsBounded (bounds : Table ℕ) (place : ℕ) : Type 0 where
  pub within : place / 8 < bounds.ports
  pub small : bound_of bounds place < 10 ^ 36

-- so has each place of a stream
abbrev pub AreBounded : Table ℕ → RouteState → Type 0
AreBounded bounds route = All (IsBounded bounds) route.places
