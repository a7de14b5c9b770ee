use Rattle.std.proofs.Common.{◌*◌, arith}
use Rattle.ats_num.specs.declared.time.TheConstants.{PS_PER_SECOND}
use Rattle.ats_num.specs.Division.{IsCeiling}
use Rattle.ats_num.proofs.Ceiling.{ceiling-only}
use Rattle.ats_lrq.proofs.Distances.{quotient-bounded}
use Rattle.ats_lrq.proofs.spaced_member.quotient.Goals as goal

pub overflow_cast-result : goal.overflow_cast-result
overflow_cast-result c =
    let q : IsCeiling (PS_PER_SECOND * c.args.bits) c.args.rate c.ceil_div.result =
    rw (← c.from.ensures, ← c.bps.ensures.value, ← c.from-2.ensures) c.ceil_div.ensures in
    let b = quotient-bounded (PS_PER_SECOND * c.args.bits) c.args.rate c.ceil_div.result c.requires.rate.positive q in
    omega arith

pub returns-clause-value : goal.returns-clause-value
returns-clause-value c =
    ceiling-only (PS_PER_SECOND * c.args.bits) c.args.rate c.ceil_div.result c.requires.rate.positive
    (rw (← c.from.ensures, ← c.bps.ensures.value, ← c.from-2.ensures) c.ceil_div.ensures)
