-- How legs are found route by route: what the clauses of private functions speak of, and what decides whether routes
-- are those of a tree. Which legs routes have, `HaveRoutes` alone says.
use Rattle.std.specs.Prelude.{ℕ, zero, suc, ◌-◌, Bool, ◌&&◌, ◌==◌, nat_lt, if◌then◌else◌, List, [], ◌∷◌, ◌++◌}
use Rattle.std.specs.Prelude.{length, take, drop, slice_index_or, Option, Some, None, option_and_then}
use Rattle.std.specs.List.{position_from}
use Rattle.std.specs.Str.{bytes_eq}
use Rattle.ats_streams.specs.Branches.{first_from, leg_at, legs_of, routes_of}
use Rattle.ats_streams.specs.declared.branch.Branch.{Branch}
use Rattle.ats_streams.specs.declared.branch.TheConstants.{MAX_BRANCHES}
use Rattle.ats_topology.specs.Port.{leads_to, port_at}
use Rattle.ats_topology.specs.Topology.{DeclaredTopology}
use Rattle.ats_topology.specs.declared.port.Port.{Port}
use Rattle.ats_network.specs.Ends.{beginning_of}
use Rattle.ats_network.specs.PathSteps.{comes_to}
use Rattle.ats_route_tree.specs.Legs.{DeclaredLegs}

-- one port in front of a route, so many first ports of which are known
abbrev pub one_more : ℕ → Bool → ℕ
one_more zero known = if known then 1 else 0
one_more (suc n) known = suc (suc n)

-- how many first ports a route has up to the last one that leads to a node of these ports
abbrev pub known_ports : List Port → List ℕ → List ℕ → ℕ
known_ports ports numbers [] = 0
known_ports ports numbers (p ∷ route) =
    one_more (known_ports ports numbers route) (comes_to ports (port_at ports p).to numbers)

-- the place among some ports of the first one that leads to a node
abbrev pub place_to : List Port → ℕ → List ℕ → Option ℕ
place_to ports node numbers = position_from (λ p. leads_to node (port_at ports p)) 0 numbers

-- the leg that has the port at a place
abbrev pub leg_with : List Branch → ℕ → ℕ
leg_with [] place = 0
leg_with (b ∷ branches) place = if nat_lt place b.first then 0 else suc (leg_with branches place)

-- a branch of these legs, the last of all, that begins at the node to which the port at a place leads
abbrev pub branch_on : DeclaredLegs → ℕ → ℕ → Branch
branch_on legs place leg =
    record { first = length legs.ports; leg = leg; hop = suc (place - first_from 0 legs.branches leg) }

abbrev pub branch_behind : DeclaredLegs → ℕ → Branch
branch_behind legs place = branch_on legs place (leg_with legs.branches place)

-- the branch of these legs, the last of all, that begins at the talker
abbrev pub branch_first : DeclaredLegs → Branch
branch_first legs = record { first = length legs.ports; leg = 0; hop = 0 }

-- a route, so many first ports of which are those of another one, goes off there from a leg that goes on
abbrev pub goes_off : DeclaredLegs → List ℕ → ℕ → Branch → Bool
goes_off legs route count b =
    nat_lt 0 count && (nat_lt count (length route)
    && (nat_lt b.hop (length (leg_at (legs_of legs.ports legs.branches) b.leg))
    && (bytes_eq (take count route) (take count (leg_at (routes_of legs.ports legs.branches) b.leg))
    && nat_lt (length legs.branches) MAX_BRANCHES)))

-- the legs with one branch more
abbrev pub grown : DeclaredLegs → List ℕ → ℕ → Branch → DeclaredLegs
grown legs route count b = record { ports = legs.ports ++ drop count route; branches = legs.branches ++ b ∷ [] }

abbrev pub grown_where : DeclaredLegs → List ℕ → ℕ → Branch → Option DeclaredLegs
grown_where legs route count b = if goes_off legs route count b then Some (grown legs route count b) else None

-- the node to which the last of so many first ports of a route leads
abbrev pub node_after : List Port → List ℕ → ℕ → ℕ
node_after ports route count = (port_at ports (slice_index_or route (count - 1) 0)).to

-- a route none of whose ports is known goes off at the talker, where it begins there
abbrev pub goes_off_first : List Port → DeclaredLegs → List ℕ → Bool
goes_off_first ports legs route =
    beginning_of ports route == beginning_of ports legs.ports && nat_lt (length legs.branches) MAX_BRANCHES

-- the legs with a branch at the talker for one more route, if it goes off there
abbrev pub with_first : List Port → DeclaredLegs → List ℕ → Option DeclaredLegs
with_first ports legs route =
    if goes_off_first ports legs route then Some (grown legs route 0 (branch_first legs)) else None

-- the legs with a branch for one more route, of which so many first ports are known
abbrev pub with_known : DeclaredTopology → DeclaredLegs → List ℕ → ℕ → Option DeclaredLegs
with_known topology legs route zero = with_first topology.ports legs route
with_known topology legs route (suc n) =
    option_and_then (λ place. grown_where legs route (suc n) (branch_behind legs place))
    (place_to topology.ports (node_after topology.ports route (suc n)) legs.ports)

-- the legs with a branch for one more route, if it goes off from them
abbrev pub with_route : DeclaredTopology → DeclaredLegs → List ℕ → Option DeclaredLegs
with_route topology legs route = with_known topology legs route (known_ports topology.ports legs.ports route)

-- and for routes, one after another
abbrev pub with_routes : DeclaredTopology → DeclaredLegs → List (List ℕ) → Option DeclaredLegs
with_routes topology legs [] = Some legs
with_routes topology legs (route ∷ routes) =
    option_and_then (λ next. with_routes topology next routes) (with_route topology legs route)

-- the legs of valid paths, of which the first is that of the trunk
abbrev pub legs_found : DeclaredTopology → List (List ℕ) → Option DeclaredLegs
legs_found topology [] = None
legs_found topology (route ∷ routes) = with_routes topology (record { ports = route; branches = [] }) routes
