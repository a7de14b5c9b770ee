use Rattle.std.proofs.Common.{take}
use Rattle.std.specs.List.{concat}
use Rattle.ats_trace.specs.Journey.{legs_at}
use Rattle.ats_buffer.specs.Sums.{AreAdding}
use Rattle.ats_buffer.proofs.shares.add_shares.Given as goal

-- the stream is added at the ports of the legs so far
abbrev pub invariant-loop-leg : goal.invariant-loop-leg
invariant-loop-leg l =
    AreAdding l.network l.rows.rows l.stream (concat (take l.leg (legs_at l.network l.stream))) l.sums
