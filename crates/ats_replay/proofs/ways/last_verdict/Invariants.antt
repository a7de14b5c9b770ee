use Rattle.std.proofs.Common.{◌≡◌, ◌<◌, length}
use Rattle.ats_network.specs.Senders.{sender_at}
use Rattle.ats_trace.specs.Journey.{legs_in}
use Rattle.ats_trace.specs.Stored.{travel_at}
use Rattle.ats_trace.specs.Ways.{way_to}
use Rattle.ats_replay.specs.Totals.{last_of}
use Rattle.ats_replay.proofs.ways.last_verdict.Given as goal

-- the last record on the way along this leg is that on the way which is asked for
abbrev pub invariant-loop-leg : goal.invariant-loop-leg
invariant-loop-leg g l =
    (l.leg < length (legs_in (travel_at (g.R.Ended.run l.run) l.frame)))
    × (last_of (way_to (sender_at l.network (travel_at (g.R.Ended.run l.run) l.frame).release.sender)
    (travel_at (g.R.Ended.run l.run) l.frame) l.leg).hops
    ≡ last_of (way_to (sender_at l.network (travel_at (g.R.Ended.run l.run) l.frame).release.sender)
    (travel_at (g.R.Ended.run l.run) l.frame) l.fn.leg).hops)

abbrev pub decreases-loop-leg : goal.decreases-loop-leg
decreases-loop-leg g l = l.leg
