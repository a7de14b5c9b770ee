use Rattle.std.proofs.Common.{◌≡◌, ◌≤◌, length}
use Rattle.ats_pcap.specs.Seen.{Follows, seen}
use Rattle.ats_pcap.proofs.progress.Progress.take_whole.Given as goal

abbrev pub invariant-loop-size : goal.invariant-loop-size
invariant-loop-size l = record {
  follows : Follows (seen l.fn.self) (seen l.self) l.piece l.rest;
  header : l.self.header ≡ l.fn.self.header;
  none : l.self.there ≡ 0;
  shorter : length l.rest ≤ length l.piece;
}

abbrev pub decreases-loop-size : goal.decreases-loop-size
decreases-loop-size l = length l.rest
