use Rattle.std.proofs.Common.{◌≡◌, ◌≤◌, false, length, drop}
use Rattle.std.specs.List.{All}
use Rattle.ats_route_tree.proofs.Known.{is_in}
use Rattle.ats_route_tree.proofs.steps.known_ports.Given as goal

-- none of the ports behind these leads to such a node
abbrev pub invariant-loop-count : goal.invariant-loop-count
invariant-loop-count l = record {
  within : l.count ≤ length l.route;
  out : All (λ p. is_in l.ports l.numbers p ≡ false) (drop l.count l.route);
}

abbrev pub decreases-loop-count : goal.decreases-loop-count
decreases-loop-count l = l.count
