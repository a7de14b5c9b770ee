use Rattle.std.proofs.Common.{take}
use Rattle.ats_engine.specs.Rooms.{AreCounts}
use Rattle.ats_engine.proofs.rooms.counts_of.Given as goal

abbrev pub invariant-loop-release : goal.invariant-loop-release
invariant-loop-release l = AreCounts l.net (take l.release-index l.releases) l.counts.items
