use Rattle.std.proofs.Common.{◌≡◌, take}
use Rattle.ats_network.specs.Senders.{sender_at}
use Rattle.ats_trace.specs.Journey.{legs_at}
use Rattle.ats_trace.proofs.Legs.{place_of}
use Rattle.ats_route_law.specs.Laws.{in_front_of}
use Rattle.ats_buffer.specs.Buffer.{way_behind}
use Rattle.ats_buffer.specs.Sums.{AreAdding}
use Rattle.ats_buffer.proofs.ShareLemmas.{stream_at}
use Rattle.ats_buffer.proofs.shares.add_leg.Given as goal

-- the stream is added at the hops so far, and the port before the next one is known, and the way over it
abbrev pub invariant-loop-hop : goal.invariant-loop-hop
invariant-loop-hop l =
    let legs = legs_at l.network l.stream in
    let s = sender_at l.network l.stream in
    record {
      added : AreAdding l.network l.rows.rows l.stream (take (place_of legs l.leg l.hop)
          (stream_at l.network l.stream).ports) l.sums;
      before : l.before ≡ in_front_of s l.leg l.hop;
      way : l.way ≡ way_behind l.network l.rows.rows s (in_front_of s l.leg l.hop);
    }
