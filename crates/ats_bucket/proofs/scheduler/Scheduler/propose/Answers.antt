use Rattle.std.proofs.Common.{refl, ap, sym, max, leb-true}
use Rattle.ats_bucket.proofs.Eligibility.{filled-is, soonest-is}
use Rattle.ats_bucket.proofs.scheduler.Scheduler.propose.Goals as goal

pub returns-then-is_filled-clause-value : goal.returns-then-is_filled-clause-value
returns-then-is_filled-clause-value c =
    let s = c.self.inside in
    let by_then = leb-true _ _ (sym c.if-is_filled.ensures) in
    rw (c.max-soonest.ensures, ← c.self.view_is)
    (soonest-is s.rate s.burst_bits s.full c.args.group.0 c.args.arrival.0 c.args.bits _
    c.self.invariant.committed.positive refl (rw (← c.max-soonest.ensures) by_then))

pub returns-clause-value : goal.returns-clause-value
returns-clause-value c =
    let s = c.self.inside in
    let f = filled-is s.rate s.burst_bits s.full c.args.bits c.filled_at-filled.result _
    c.self.invariant.committed.positive refl c.filled_at-filled.ensures.least in
    rw (c.max.ensures, c.max-soonest.ensures, ← c.self.view_is) (ap (max (max c.args.arrival.0 c.args.group.0)) f)
