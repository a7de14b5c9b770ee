use Rattle.std.proofs.Common.{take}
use Rattle.std.specs.List.{All, AllZip}
use Rattle.ats_network.specs.Senders.{sender_at}
use Rattle.ats_trace.specs.Ways.{route_to}
use Rattle.ats_witness.specs.Found.{IsFoundAt, IsWithinBound}
use Rattle.ats_witness.specs.Played.{IsPlayed}
use Rattle.ats_witness.proofs.finding.delays_of.Given as goal

-- the delays found at the ports so far, and the last of them in its burst
abbrev pub invariant-loop-hop : goal.invariant-loop-hop
invariant-loop-hop l =
    AllZip (IsFoundAt l.network l.stream l.listener)
    (take l.hop (route_to (sender_at l.network l.stream) l.listener)) l.delays.items
    × All (IsWithinBound l.network l.stream l.listener) l.delays.items
    × IsPlayed l.network l.stream l.listener l.played.burst.items l.played.delay
