use Rattle.std.specs.Prelude.{◌≡◌, ◌≢◌, ◌↔◌, ℕ, List, ◌∷◌, map, All, AllPairs, Some}
use Rattle.ats_num.specs.Places.{place_of}
use Rattle.ats_topology.specs.Node.{names_of}
use Rattle.ats_topology.specs.Topology.{DeclaredTopology, IsStationAt, IsTopology}
use Rattle.ats_network.specs.Laws.{EndApart}
use Rattle.ats_route_tree.specs.Legs.{DeclaredLegs}
use Rattle.ats_network_toml.specs.Document as file
use Rattle.ats_network_file.specs.Routes.{legs_of, paths_of}

-- there are legs that have these routes
pub record HaveLegs (topology : DeclaredTopology) (routes : List file.DeclaredRoute) : Type 0 where
  pub legs : DeclaredLegs
  pub are : legs_of topology routes ≡ Some legs

-- the node with a name is a station, if there is one
abbrev pub IsStationNamed : DeclaredTopology → List ℕ → Type 0
IsStationNamed topology name = (n : ℕ) → place_of name (names_of topology.nodes) ≡ Some n → IsStationAt topology n

-- routes by the ends alone, from one node, each of which is a valid path, have legs exactly where no listener is on the
-- way to another one
abbrev pub EndsMakeATree : Type 0
EndsMakeATree = (topology : DeclaredTopology) (from to : List ℕ) (others : List (List ℕ)) (paths : List (List ℕ))
    → IsTopology topology → paths_of topology (map (file.ends from) (to ∷ others)) ≡ Some paths
    → HaveLegs topology (map (file.ends from) (to ∷ others)) ↔ EndApart topology paths

-- so they have legs where they lead to different stations
abbrev pub StationsMakeATree : Type 0
StationsMakeATree = (topology : DeclaredTopology) (from to : List ℕ) (others : List (List ℕ)) (paths : List (List ℕ))
    → IsTopology topology → AllPairs (λ a b. a ≢ b) (to ∷ others) → All (IsStationNamed topology) (to ∷ others)
    → paths_of topology (map (file.ends from) (to ∷ others)) ≡ Some paths
    → HaveLegs topology (map (file.ends from) (to ∷ others))
