use Rattle.std.proofs.Common.{◌≡◌, ◌++◌, take}
use Rattle.std.specs.List.{flat_map}
use Rattle.ats_streams.specs.Branches.{legs_of}
use Rattle.ats_network.specs.Sender.{stream_sender}
use Rattle.ats_schedulers.specs.Schedulers.{leg_members}
use Rattle.ats_schedulers.proofs.lists.push_stream.Given as goal

-- the schedulers of the legs so far
abbrev pub invariant-loop-leg : goal.invariant-loop-leg
invariant-loop-leg l = l.members.items
    ≡ l.initial.members.items
    ++ flat_map (leg_members l.topology (stream_sender l.stream))
    (take l.leg (legs_of l.stream.ports l.stream.branches))
