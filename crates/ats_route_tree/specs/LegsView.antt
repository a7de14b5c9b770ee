use Rattle.std.specs.Prelude.{ℕ, List, map}
use Rattle.std.specs.Global.{Vec}
use Rattle.ats_route_tree.specs.Legs.{DeclaredLegs}
use Rattle.ats_route_tree.specs.declared.legs.Legs.{Legs}

-- what the lists of legs hold
abbrev pub legs_view : Legs → DeclaredLegs
legs_view l = record { ports = l.ports.items; branches = l.branches.items }

-- routes as lists
abbrev pub routes_in : List (Vec ℕ) → List (List ℕ)
routes_in routes = map (λ (route : Vec ℕ). route.items) routes

abbrev pub paths_view : Vec (Vec ℕ) → List (List ℕ)
paths_view paths = routes_in paths.items
