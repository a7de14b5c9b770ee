use Rattle.std.specs.Prelude.{◌⊎◌, ℕ, Bool, true, false, List, [], ◌∷◌, Option, None, Some, option_and_then}
use Rattle.std.specs.Prelude.{if◌then◌else◌}
use Rattle.std.specs.List.{list_all}
use Rattle.std.specs.Option.{option_map}
use Rattle.std.proofs.Common.{inl, inr}
use Rattle.ats_num.specs.Places.{place_of}
use Rattle.ats_topology.specs.Node.{names_of}
use Rattle.ats_topology.specs.Port.{port_at, port_between}
use Rattle.ats_topology.specs.Topology.{DeclaredTopology}
use Rattle.ats_network.specs.Ends.{joins_stations}
use Rattle.ats_network.specs.Shortest.{shortest_of}
use Rattle.ats_network.proofs.PathTests.{valid_or_not}
use Rattle.ats_route_tree.specs.Legs.{DeclaredLegs, HasLegs}
use Rattle.ats_route_tree.proofs.Found.{legs_or_none}
use Rattle.ats_network_table.specs.declared.format.Format.{Format}
use Rattle.ats_network_table.specs.declared.format.Format.TheVariants.{One, Two, Three}
use Rattle.ats_network_toml.specs.Document as file

-- the port from a node to the one with this name, where a link joins them
abbrev pub port_to : DeclaredTopology → ℕ → List ℕ → Option ℕ
port_to topology a name =
    option_and_then (λ b. port_between a b topology.ports) (place_of name (names_of topology.nodes))

-- the ports that lead from a node through the nodes with these names, one after another, where links join them
abbrev pub ports_onward : DeclaredTopology → ℕ → List (List ℕ) → Option (List ℕ)
ports_onward topology a [] = Some []
ports_onward topology a (name ∷ names) =
    option_and_then (λ p. option_map (λ ports. p ∷ ports)
    (ports_onward topology (port_at topology.ports p).to names)) (port_to topology a name)

-- the ports of a route: through the nodes that it names, or by the least walk between its ends
abbrev pub ports_of : DeclaredTopology → file.DeclaredRoute → Option (List ℕ)
ports_of topology (file.path []) = None
ports_of topology (file.path (name ∷ names)) =
    option_and_then (λ a. ports_onward topology a names) (place_of name (names_of topology.nodes))
ports_of topology (file.ends from to) =
    option_and_then (λ a. option_and_then (λ b. shortest_of topology a b) (place_of to (names_of topology.nodes)))
    (place_of from (names_of topology.nodes))

-- the ports of each of some routes, where each has some
abbrev pub ports_of_each : DeclaredTopology → List file.DeclaredRoute → Option (List (List ℕ))
ports_of_each topology [] = Some []
ports_of_each topology (route ∷ routes) =
    option_and_then (λ ports. option_map (λ more. ports ∷ more) (ports_of_each topology routes))
    (ports_of topology route)

-- where it was decided whether routes have legs, these legs, if they have some
abbrev pub legs_where : {topology : DeclaredTopology} {routes : List (List ℕ)}
    → HasLegs topology routes ⊎ ¬ HasLegs topology routes → Option DeclaredLegs
legs_where (inl has) = Some has.legs
legs_where (inr never) = None

-- the legs of the tree that has just these routes, if there is one
abbrev pub legs_with : DeclaredTopology → List (List ℕ) → Option DeclaredLegs
legs_with topology routes = legs_where (legs_or_none topology routes)

-- the legs of a stream that has these routes
abbrev pub legs_of : DeclaredTopology → List file.DeclaredRoute → Option DeclaredLegs
legs_of topology routes = option_and_then (legs_with topology) (ports_of_each topology routes)

-- a statement that was decided holds
abbrev pub holds : {A : Type 0} → A ⊎ ¬ A → Bool
holds (inl is) = true
holds (inr never) = false

-- the ports make a valid path
abbrev pub is_valid : DeclaredTopology → List ℕ → Bool
is_valid topology path = holds (valid_or_not topology path)

-- the ports of a route, where they make a valid path
abbrev pub path_of : DeclaredTopology → file.DeclaredRoute → Option (List ℕ)
path_of topology route =
    option_and_then (λ ports. if is_valid topology ports then Some ports else None) (ports_of topology route)

-- and those of each of some routes
abbrev pub paths_of : DeclaredTopology → List file.DeclaredRoute → Option (List (List ℕ))
paths_of topology [] = Some []
paths_of topology (route ∷ routes) =
    option_and_then (λ path. option_map (λ paths. path ∷ paths) (paths_of topology routes)) (path_of topology route)

-- a file of this format may declare these routes: in format 3 they begin and end at any nodes, and before at stations
abbrev pub may_declare : Format → DeclaredTopology → List (List ℕ) → Bool
may_declare One topology routes = list_all (joins_stations topology) routes
may_declare Two topology routes = list_all (joins_stations topology) routes
may_declare Three topology routes = true
