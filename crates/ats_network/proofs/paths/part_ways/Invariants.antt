use Rattle.std.proofs.Common.{◌≡◌, drop}
use Rattle.ats_network.specs.PathSteps.{part_ways}
use Rattle.ats_network.proofs.paths.part_ways.Given as goal

abbrev pub invariant-loop-i : goal.invariant-loop-i
invariant-loop-i l = part_ways l.ports l.path ≡ part_ways l.ports (drop l.i l.path)
