use Rattle.std.proofs.Common.{◌≡◌, ◌*◌, ◌≤◌, take, sum_by}
use Rattle.ats_witness.specs.Burst.{time_over}
use Rattle.ats_witness.proofs.participant.time_along.Given as goal

-- the time over the ports so far
abbrev pub invariant-loop-port : goal.invariant-loop-port
invariant-loop-port l =
    (l.time ≡ sum_by (time_over l.network l.octets) (take l.port-index l.ports))
    × (l.time ≤ 3616000000 * l.port-index)
