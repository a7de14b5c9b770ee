use Rattle.std.proofs.Common.{◌≡◌, drop}
use Rattle.ats_network.specs.PathSteps.{walk_end}
use Rattle.ats_network.proofs.paths.walk_end.Given as goal

abbrev pub invariant-loop-p : goal.invariant-loop-p
invariant-loop-p l = walk_end l.ports l.fn.from l.path ≡ walk_end l.ports l.at (drop l.p-index l.path)
