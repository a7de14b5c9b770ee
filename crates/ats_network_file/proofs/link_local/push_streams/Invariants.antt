use Rattle.std.proofs.Common.{◌≡◌, ◌++◌, drop, map}
use Rattle.std.specs.List.{enumerate_from}
use Rattle.ats_network_file.specs.LinkLocal.{stream_at, streams_at}
use Rattle.ats_network_file.specs.Senders.{at_place}
use Rattle.ats_network_file.proofs.link_local.push_streams.Given as goal

-- the streams so far, in front of those at the ports left, are all
abbrev pub invariant-loop-number : goal.invariant-loop-number
invariant-loop-number l =
    l.streams.items ++ map (at_place l.place) (map (stream_at l.topology l.entry)
    (enumerate_from l.number (drop l.number l.topology.ports)))
    ≡ l.fn.streams.items ++ map (at_place l.place) (streams_at l.topology l.entry)
