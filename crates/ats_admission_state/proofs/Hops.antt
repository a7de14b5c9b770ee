-- The paths of routes among those of several.
use Rattle.std.proofs.Common.{◌≡◌, ℕ, ◌<◌, List, [], length, get_or}
use Rattle.std.proofs.lemmas.List.{get_or-map}
use Rattle.ats_admission_state.specs.Routes.{RouteState, no_route, ports_along, route_paths}

-- the path of a route among those of several
pub path_of : (routes : List RouteState) (n : ℕ) → n < length routes
    → get_or (route_paths routes) n [] ≡ ports_along (get_or routes n no_route)
path_of routes n within = get_or-map ports_along routes n no_route [] within
