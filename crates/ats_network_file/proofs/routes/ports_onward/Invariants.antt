use Rattle.std.proofs.Common.{◌≡◌, ◌++◌, drop, option_map}
use Rattle.ats_network_file.specs.Routes.{ports_onward}
use Rattle.ats_network_file.specs.KeptSteps.{AreSteps}
use Rattle.ats_network_file.proofs.routes.ports_onward.Given as goal

-- the ports so far, in front of those through the nodes left, are those through all nodes
abbrev pub invariant-loop-name : goal.invariant-loop-name
invariant-loop-name l = record {
  onward : option_map (λ ys. l.path.items ++ ys) (ports_onward l.topology l.at (drop l.name-index l.names))
      ≡ ports_onward l.topology l.initial.at l.names;
  kept : AreSteps l.topology l.steps;
}
