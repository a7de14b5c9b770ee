use Rattle.std.proofs.Common.{◌≡◌, ◌++◌}
use Rattle.ats_network.specs.Senders.{sender_at}
use Rattle.ats_trace.specs.Stored.{travel_at}
use Rattle.ats_replay.proofs.Legs.{copies_to}
use Rattle.ats_replay.proofs.journey.write_journey.Given as goal

-- the text has the lines of the copies so far
abbrev pub invariant-loop-leg : goal.invariant-loop-leg
invariant-loop-leg l = l.out.items
    ≡ l.initial.out.items
    ++ copies_to l.network.topology (sender_at l.network (travel_at l.run l.frame).release.sender)
    (travel_at l.run l.frame) l.leg
