use Rattle.std.proofs.Common.{◌≡◌, ◌++◌}
use Rattle.ats_trace.specs.Stored.{travel_at}
use Rattle.ats_buffer.specs.Moments.{moments_of_frame}
use Rattle.ats_buffer.proofs.Visits.{moments_left}
use Rattle.ats_buffer.proofs.moments.push_frame.Given as goal

-- the moments so far, and those along the legs that are left, are those of the frame
abbrev pub invariant-loop-leg : goal.invariant-loop-leg
invariant-loop-leg l =
    let j = travel_at l.run l.frame in
    l.moments.items ++ moments_left l.network l.frame j l.leg
    ≡ l.fn.moments.items ++ moments_of_frame l.network l.frame j
