use Rattle.std.proofs.Common.{◌≡◌, ◌++◌, map, take}
use Rattle.ats_streams.specs.Branches.{leg_at, legs_of}
use Rattle.ats_network.specs.Sender.{stream_sender}
use Rattle.ats_schedulers.specs.Schedulers.{member_behind}
use Rattle.ats_schedulers.proofs.lists.push_leg.Given as goal

-- the schedulers behind the ports so far
abbrev pub invariant-loop-hop : goal.invariant-loop-hop
invariant-loop-hop l = l.members.items
    ≡ l.initial.members.items
    ++ map (member_behind l.topology (stream_sender l.stream))
    (take l.hop (leg_at (legs_of l.stream.ports l.stream.branches) l.leg))
