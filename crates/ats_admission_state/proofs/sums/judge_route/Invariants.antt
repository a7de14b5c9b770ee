use Rattle.std.proofs.Common.{◌≡◌, drop}
use Rattle.ats_network.specs.Listeners.{listeners_of}
use Rattle.ats_tally.specs.Reason.{first_some, late_for}
use Rattle.ats_bound.specs.Least.{least_certificate}
use Rattle.ats_admission_law.specs.Near.{late_at}
use Rattle.ats_admission_shares.specs.PortShares.{stream_at}
use Rattle.ats_admission_state.proofs.sums.judge_route.Given as goal

-- what is found first is among the listeners still to come
abbrev pub invariant-loop-leg : goal.invariant-loop-leg
invariant-loop-leg l =
    late_at l.network l.stream
    ≡ first_some (late_for (least_certificate l.network) (stream_at l.network l.stream))
    (drop l.leg (listeners_of l.network.topology (stream_at l.network l.stream)))
