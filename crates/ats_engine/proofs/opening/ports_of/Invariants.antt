use Rattle.ats_engine.specs.Rooms.{AreOpenedTo}
use Rattle.ats_engine.proofs.opening.ports_of.Given as goal

abbrev pub invariant-loop-port : goal.invariant-loop-port
invariant-loop-port g l = AreOpenedTo l.net l.releases l.tie l.port l.ports.items
