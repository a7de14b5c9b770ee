use Rattle.std.proofs.Common.{arith}
use Rattle.ats_run_records.proofs.Ended.{length-ends}
use Rattle.ats_run_records.proofs.ends.Ends.len.Goals as goal

pub returns-clause-value : goal.returns-clause-value
returns-clause-value c = omega (arith, c.len.ensures, length-ends c.self.invariant c.self.view_is)

pub returns-clause-bounded : goal.returns-clause-bounded
returns-clause-bounded c =
    omega (
      arith,
      length-ends c.self.invariant c.self.view_is,
      c.self.invariant.few,
      c.self.invariant.numbered,
    )
