use Rattle.std.proofs.Common.{length}
use Rattle.ats_pcap.specs.Seen.{Follows, seen}
use Rattle.ats_pcap.proofs.progress.Progress.read.Given as goal

abbrev pub invariant-loop-rest : goal.invariant-loop-rest
invariant-loop-rest l = Follows (seen l.fn.self) (seen l.self) l.piece l.rest

abbrev pub decreases-loop-rest : goal.decreases-loop-rest
decreases-loop-rest l = length l.rest
