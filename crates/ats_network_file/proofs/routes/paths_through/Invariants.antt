use Rattle.std.proofs.Common.{◌≡◌, ◌++◌, List, ℕ, drop, map, option_map}
use Rattle.std.specs.Global.{Vec}
use Rattle.std.specs.List.{All}
use Rattle.ats_network.specs.Path.{IsValidPath}
use Rattle.ats_network_toml.specs.Document as file
use Rattle.ats_route_tree.specs.LegsView.{routes_in}
use Rattle.ats_network_file.specs.KeptSteps.{AreSteps}
use Rattle.ats_network_file.specs.Routes.{paths_of}
use Rattle.ats_network_file.proofs.routes.paths_through.Given as goal

-- the paths so far are valid, and in front of those left are all
abbrev pub invariant-loop-names : goal.invariant-loop-names
invariant-loop-names l = record {
  found : option_map (λ ys. routes_in l.found.items ++ ys)
      (paths_of l.topology (map file.path (map (λ (names : Vec (List ℕ)). names.items) (drop l.names-index l.paths))))
      ≡ paths_of l.topology (map file.path (map (λ (names : Vec (List ℕ)). names.items) l.paths));
  valid : All (IsValidPath l.topology) (routes_in l.found.items);
  kept : AreSteps l.topology l.steps;
}
