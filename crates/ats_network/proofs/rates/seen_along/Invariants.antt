use Rattle.std.proofs.Common.{◌≡◌, drop, map}
use Rattle.ats_clock.specs.Rates.{IsCommitted, output_behind}
use Rattle.ats_network.specs.Rates.{clock_behind}
use Rattle.ats_network.proofs.rates.seen_along.Given as goal

-- what comes so far, over the ports that are left, comes to the end
abbrev pub invariant-loop-port : goal.invariant-loop-port
invariant-loop-port l = record {
  so_far : IsCommitted l.seen;
  left : output_behind (map (clock_behind l.topology) (drop l.port-index l.ports)) l.seen
      ≡ output_behind (map (clock_behind l.topology) l.ports) l.fn.sent;
}
