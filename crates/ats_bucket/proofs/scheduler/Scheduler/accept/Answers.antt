use Rattle.std.proofs.Common.{refl, ap}
use Rattle.std.specs.Prelude.{ℤ, ◌*◌, pos, ◌-ℤ◌}
use Rattle.ats_num.specs.declared.time.TheConstants.{PS_PER_SECOND}
use Rattle.ats_bucket.specs.Scheduler.{Bucket}
use Rattle.ats_bucket.proofs.EmptyAfter.{empty_after-is}
use Rattle.ats_bucket.proofs.scheduler.Scheduler.accept.Goals as goal

pub returns : goal.returns
returns c =
    let s = c.self.inside in
    let e = empty_after-is s.rate s.burst_bits s.full c.args.eligible.0 c.args.bits
    (pos s.full -ℤ pos (PS_PER_SECOND * s.burst_bits)) refl in
    rw (← c.self.view_is, c.full_after-self-inside.ensures)
    (ap (λ (empty : ℤ). let b : Bucket = record { rate = s.rate; burst = s.burst_bits; empty = empty } in b) e)
