use Rattle.std.specs.Prelude.{◌≡◌, ◌↔◌, ℕ, ◌-◌, Bool, true, ◌&&◌, List, length, Some, slice_index_or}
use Rattle.std.specs.List.{AllZip, list_all}
use Rattle.ats_topology.specs.Node.{is_station}
use Rattle.ats_topology.specs.Port.{port_at}
use Rattle.ats_topology.specs.Topology.{DeclaredTopology, node_at}
use Rattle.ats_streams.specs.Branches.{AreBranches, routes_of}
use Rattle.ats_network.specs.Path.{IsTree}
use Rattle.ats_route_tree.specs.Legs.{DeclaredLegs, HasLegs, HaveRoutes}
use Rattle.ats_network_table.specs.declared.format.Format.{Format}
use Rattle.ats_network_table.specs.declared.format.Format.TheVariants.{One, Three, Two}
use Rattle.ats_network_file.specs.Routes.{may_declare, ports_of}
use Rattle.ats_network_file_law.specs.SenderFaults.{IsRouted, SenderEntry, routes_in}

-- What is asked of the routes of a stream or a flow, part by part, and nothing else.

-- legs have these routes where they are those of branches, make a tree, and lead along just these. Refuses a premise
-- beside these, as that a route is the least walk between its ends
abbrev pub HavingRoutesIsMeant : Type 0
HavingRoutesIsMeant = (topology : DeclaredTopology) (routes : List (List ℕ)) (legs : DeclaredLegs)
    → HaveRoutes topology routes legs
    ↔ (AreBranches legs.ports legs.branches × IsTree topology legs.ports legs.branches
    × (routes_of legs.ports legs.branches ≡ routes))

-- there are legs that do
abbrev pub HavingLegsIsMeant : Type 0
HavingLegsIsMeant = (topology : DeclaredTopology) (routes : List (List ℕ))
    → HasLegs topology routes ↔ ((legs : DeclaredLegs) × HaveRoutes topology routes legs)

-- the first port of a route leaves a station, and its last leads to one
abbrev pub is_between_stations : DeclaredTopology → List ℕ → Bool
is_between_stations topology route =
    is_station (node_at topology.nodes (port_at topology.ports (slice_index_or route 0 0)).from).kind
    && is_station (node_at topology.nodes (port_at topology.ports (slice_index_or route (length route - 1) 0)).to).kind

-- formats 1 and 2 may declare routes that are all between stations, and format 3 any
pub record DeclaringIsMeant (topology : DeclaredTopology) (routes : List (List ℕ)) : Type 0 where
  pub one : may_declare One topology routes ≡ list_all (is_between_stations topology) routes
  pub two : may_declare Two topology routes ≡ list_all (is_between_stations topology) routes
  pub three : may_declare Three topology routes ≡ true

-- an entry of a file has these legs where each of its routes has ports, and the legs have just these as their routes,
-- which a file of its format may declare
abbrev pub RoutingIsMeant : Type 0
RoutingIsMeant = (format : Format) (topology : DeclaredTopology) (entry : SenderEntry) (legs : DeclaredLegs)
    → IsRouted format topology entry legs
    ↔ ((routes : List (List ℕ)) × AllZip (λ route ports. ports_of topology route ≡ Some ports) (routes_in entry) routes
    × HaveRoutes topology routes legs × (may_declare format topology routes ≡ true))

pub record RoutesAreMeant : Type 0 where
  pub routes : HavingRoutesIsMeant
  pub legs : HavingLegsIsMeant
  pub declared : (topology : DeclaredTopology) (routes : List (List ℕ)) → DeclaringIsMeant topology routes
  pub routed : RoutingIsMeant
