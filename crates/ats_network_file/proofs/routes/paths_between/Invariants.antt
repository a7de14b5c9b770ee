use Rattle.std.proofs.Common.{◌≡◌, ◌++◌, drop, map, option_map}
use Rattle.std.specs.List.{All}
use Rattle.ats_topology.specs.KeptWalks.{AreKeptFor}
use Rattle.ats_network.specs.Path.{IsValidPath}
use Rattle.ats_network_toml.specs.Document as file
use Rattle.ats_route_tree.specs.LegsView.{routes_in}
use Rattle.ats_network_file.specs.Routes.{paths_of}
use Rattle.ats_network_file.proofs.routes.paths_between.Given as goal

-- the paths so far are valid, and in front of those left are all
abbrev pub invariant-loop-to : goal.invariant-loop-to
invariant-loop-to l = record {
  found : option_map (λ ys. routes_in l.found.items ++ ys)
      (paths_of l.topology (map (file.ends l.from) (drop l.to-index l.listeners)))
      ≡ paths_of l.topology (map (file.ends l.from) l.listeners);
  valid : All (IsValidPath l.topology) (routes_in l.found.items);
  kept : AreKeptFor l.topology l.walks;
}
