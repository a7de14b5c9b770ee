use Rattle.std.proofs.Common.{take}
use Rattle.ats_engine.specs.Rooms.{CountsOver}
use Rattle.ats_engine.proofs.rooms.count.Given as goal

abbrev pub invariant-loop-at : goal.invariant-loop-at
invariant-loop-at l = CountsOver l.net l.sender (take l.at l.ports) l.fn.counts.items l.counts.items
