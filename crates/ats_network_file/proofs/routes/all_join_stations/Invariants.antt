use Rattle.std.proofs.Common.{◌≡◌, drop}
use Rattle.std.specs.List.{list_all}
use Rattle.ats_network.specs.Ends.{joins_stations}
use Rattle.ats_route_tree.specs.LegsView.{routes_in}
use Rattle.ats_network_file.proofs.routes.all_join_stations.Given as goal

-- all do where those left do
abbrev pub invariant-loop-path : goal.invariant-loop-path
invariant-loop-path l =
    list_all (joins_stations l.topology) (routes_in (drop l.path-index l.paths))
    ≡ list_all (joins_stations l.topology) (routes_in l.paths)
