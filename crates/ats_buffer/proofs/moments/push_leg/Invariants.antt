use Rattle.std.proofs.Common.{◌≡◌, ◌++◌, drop}
use Rattle.ats_streams.specs.Branches.{leg_at}
use Rattle.ats_network.specs.Senders.{sender_at}
use Rattle.ats_trace.specs.Journey.{legs_at}
use Rattle.ats_trace.specs.Stored.{leg_in, travel_at}
use Rattle.ats_buffer.specs.Moments.{moments_of_leg}
use Rattle.ats_buffer.proofs.LegHops.{IsRest}
use Rattle.ats_buffer.proofs.Visits.{moments_along}
use Rattle.ats_buffer.proofs.moments.push_leg.Given as goal

-- the moments so far, and those of the records that are left, are those of the leg
abbrev pub invariant-loop-hop : goal.invariant-loop-hop
invariant-loop-hop l =
    let j = travel_at l.run l.frame in
    let path = leg_at (legs_at l.network j.release.sender) l.leg in
    let leg = leg_in j l.leg in
    record {
      rest : IsRest (drop l.hop path) (drop l.hop leg.hops) leg.ending;
      told : l.moments.items ++ moments_along l.frame j.release (sender_at l.network j.release.sender)
          (drop l.hop path) (drop l.hop leg.hops) leg.ending
          ≡ l.fn.moments.items ++ moments_of_leg l.network l.frame j l.leg;
    }
