use Rattle.std.proofs.Common.{◌*◌, arith}
use Rattle.ats_num.specs.declared.time.TheConstants.{PS_PER_SECOND, END}
use Rattle.ats_bucket.proofs.Ceiling.{ceiling-bounded}
use Rattle.ats_bucket.proofs.scheduler.filled_at.Goals as goal

pub overflow_cast-result : goal.overflow_cast-result
overflow_cast-result c =
    let b = ceiling-bounded c.args.full (PS_PER_SECOND * c.args.burst_bits) (PS_PER_SECOND * c.args.bits)
    END c.from.result c.saturating_sub-missing.result c.ceil_div.result (omega arith)
    (rw (c.from.ensures, c.bps.ensures.value) c.requires.time) (omega arith) c.ceil_div.ensures in
    omega arith

pub returns-clause-bounded : goal.returns-clause-bounded
returns-clause-bounded c =
    ceiling-bounded c.args.full (PS_PER_SECOND * c.args.burst_bits) (PS_PER_SECOND * c.args.bits)
    END c.from.result c.saturating_sub-missing.result c.ceil_div.result (omega arith)
    (rw (c.from.ensures, c.bps.ensures.value) c.requires.time) (omega arith) c.ceil_div.ensures
