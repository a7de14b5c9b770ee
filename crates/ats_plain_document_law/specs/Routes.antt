use Rattle.std.specs.Prelude.{◌≡◌, ◌↔◌, ℕ, List, [], ◌∷◌, Some}
use Rattle.std.specs.List.{AllZip}
use Rattle.ats_num.specs.Places.{place_of}
use Rattle.ats_topology.specs.Node.{names_of}
use Rattle.ats_topology.specs.Port.{port_at, port_between}
use Rattle.ats_topology.specs.Topology.{DeclaredTopology}
use Rattle.ats_network.specs.Shortest.{shortest_of}
use Rattle.ats_route_tree.specs.Legs.{DeclaredLegs}
use Rattle.ats_network_toml.specs.Document.{DeclaredRoute, ends, path}
use Rattle.ats_network_file.specs.Routes.{legs_of, legs_with, ports_of, ports_onward}

-- through no names no ports lead onward from a node; through some do those of which the first goes to the node with the
-- first name, and the others onward from there through those with the other names
pub record PortsLeadOnward : Type 0 where
  pub no_name : (t : DeclaredTopology) (a : ℕ) → ports_onward t a [] ≡ Some []
  pub name : (t : DeclaredTopology) (a : ℕ) (name : List ℕ) (names : List (List ℕ)) (ports : List ℕ)
      → ports_onward t a (name ∷ names) ≡ Some ports
      ↔ ((b : ℕ) × (p : ℕ) × (onward : List ℕ) × (place_of name (names_of t.nodes) ≡ Some b)
      × (port_between a b t.ports ≡ Some p) × (ports_onward t (port_at t.ports p).to names ≡ Some onward)
      × (ports ≡ p ∷ onward))

-- ports are those of a path from the node with the first name onward, and those of a route by its ends where they are
-- the least walk between the nodes with these two names
abbrev pub LeadBy : DeclaredTopology → DeclaredRoute → List ℕ → Type 0
LeadBy t (path []) ports = ⊥
LeadBy t (path (name ∷ names)) ports =
    (a : ℕ) × (place_of name (names_of t.nodes) ≡ Some a) × (ports_onward t a names ≡ Some ports)
LeadBy t (ends from to) ports =
    (a : ℕ) × (b : ℕ) × (place_of from (names_of t.nodes) ≡ Some a) × (place_of to (names_of t.nodes) ≡ Some b)
    × (shortest_of t a b ≡ Some ports)

-- so it is of the ports of a route; and the legs of routes are those of a tree that has the ports of each, in their
-- order
pub record RoutesAreDeclared : Type 0 where
  pub onward : PortsLeadOnward
  pub ports : (t : DeclaredTopology) (route : DeclaredRoute) (ports : List ℕ) → ports_of t route ≡ Some ports
      ↔ LeadBy t route ports
  pub legs : (t : DeclaredTopology) (routes : List DeclaredRoute) (legs : DeclaredLegs) → legs_of t routes ≡ Some legs
      ↔ ((paths : List (List ℕ)) × AllZip (λ route ports. ports_of t route ≡ Some ports) routes paths
      × (legs_with t paths ≡ Some legs))
