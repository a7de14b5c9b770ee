use Rattle.std.specs.Prelude.{Bool, List, [], map, unwrap_or, is_some}
use Rattle.toml.specs.Data.{Members, as_table}
use Rattle.toml.specs.View.{items_view}
use Rattle.toml.specs.declared.value.Value.{Value}
use Rattle.ats_network_table.specs.Kinds.{all_in}
use Rattle.ats_network_toml.specs.Document.{DeclaredRoute, path, ends}
use Rattle.ats_network_toml.specs.declared.entries.Route.{Route}
use Rattle.ats_network_toml.specs.declared.entries.Route.TheVariants.{Path, Ends}
use Rattle.ats_network_toml.specs.declared.entries.Routes.{Routes}
use Rattle.ats_network_toml.specs.declared.entries.Routes.TheVariants as routes

-- values of TOML, as they are held
abbrev pub Values : Type 0
Values = List Value

-- these values are tables
abbrev pub are_tables : Values → Bool
are_tables vs = is_some (all_in as_table (items_view vs))

-- the tables that these values are
abbrev pub tables_of : Values → List Members
tables_of vs = unwrap_or (all_in as_table (items_view vs)) []

-- a route, its path as a list
abbrev pub route_view : Route → DeclaredRoute
route_view (Path names) = path names.items
route_view (Ends from to) = ends from to

-- the routes of a stream, one by one
abbrev pub routes_view : Routes → List DeclaredRoute
routes_view (routes.Paths paths) = map path (map (λ names. names.items) paths.items)
routes_view (routes.Ends from listeners) = map (ends from) listeners.items
