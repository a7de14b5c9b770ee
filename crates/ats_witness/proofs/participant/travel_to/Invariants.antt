use Rattle.std.proofs.Common.{◌≡◌, drop}
use Rattle.ats_network.specs.Rates.{in_front_on, ports_to}
use Rattle.ats_network.specs.Senders.{sender_at}
use Rattle.ats_trace.specs.Ways.{routes_by}
use Rattle.ats_witness.proofs.participant.travel_to.Given as goal

-- no route so far has the port
abbrev pub invariant-loop-leg : goal.invariant-loop-leg
invariant-loop-leg l = in_front_on l.port (drop l.leg (routes_by (sender_at l.network l.sender)))
    ≡ ports_to (sender_at l.network l.sender) l.port
