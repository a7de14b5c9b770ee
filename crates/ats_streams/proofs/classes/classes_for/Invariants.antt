use Rattle.std.proofs.Common.{◌≡◌, take}
use Rattle.ats_streams.specs.Stream.{classes_for}
use Rattle.ats_streams.proofs.classes.classes_for.Given as goal

abbrev pub invariant-loop-port : goal.invariant-loop-port
invariant-loop-port l = l.classes.items ≡ take l.port (classes_for l.ports l.given)
