use Rattle.std.specs.Prelude.{◌≡◌, ℕ, List, Ok, Some, IsTrue, ◌↔◌}
use Rattle.ats_topology.specs.Topology.{DeclaredTopology}
use Rattle.ats_network.specs.Path.{IsValidPath}
use Rattle.ats_network.specs.Network.{DeclaredNetwork, HasOneListener, IsNetwork}
use Rattle.ats_network_table.specs.declared.format.Format.TheVariants.{Three}
use Rattle.ats_network_toml.specs.Reading.{format_in}
use Rattle.ats_network_file.specs.Reading.{IsBeforeFormat3, network_of}
use Rattle.ats_network_file.specs.Routes.{is_valid, legs_with}
use Rattle.ats_network_file.specs.Stations.{JoinStations}
use Rattle.ats_route_tree.specs.Legs.{DeclaredLegs, HaveRoutes}

-- the test of a path passes exactly the valid paths
abbrev pub PassesValidPaths : Type 0
PassesValidPaths = (topology : DeclaredTopology) (path : List ℕ)
    → IsTrue (is_valid topology path) ↔ IsValidPath topology path

-- what a text declares is a network
abbrev pub EachIsNetwork : Type 0
EachIsNetwork = (text : List ℕ) (network : DeclaredNetwork) → network_of text ≡ Ok network → IsNetwork network

-- what a text of format 1 or 2 declares has one listener for each stream
abbrev pub EachHasOneListener : Type 0
EachHasOneListener = (text : List ℕ) (network : DeclaredNetwork) → IsBeforeFormat3 text
    → network_of text ≡ Ok network → HasOneListener network

-- each route of what a text of format 1 or 2 declares leads from a station to a station
abbrev pub EachJoinsStations : Type 0
EachJoinsStations = (text : List ℕ) (network : DeclaredNetwork) → IsBeforeFormat3 text
    → network_of text ≡ Ok network → JoinStations network

-- a route of what a text declares has at most 16 ports in formats 1 and 2, and at most 64 in format 3
pub record MostPortsAreOfFormat : Type 0 where
  pub short : (text : List ℕ) (network : DeclaredNetwork) → IsBeforeFormat3 text → network_of text ≡ Ok network
      → network.most_ports ≡ 16
  pub long : (text : List ℕ) (network : DeclaredNetwork) → format_in text ≡ Ok Three → network_of text ≡ Ok network
      → network.most_ports ≡ 64

-- the legs that are found are those of the one tree that has these routes
abbrev pub LegsAreThoseOfRoutes : Type 0
LegsAreThoseOfRoutes = (topology : DeclaredTopology) (routes : List (List ℕ)) (legs : DeclaredLegs)
    → legs_with topology routes ≡ Some legs ↔ HaveRoutes topology routes legs
