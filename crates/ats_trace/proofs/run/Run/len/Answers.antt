use Rattle.std.proofs.Common.{arith}
use Rattle.ats_trace.proofs.RowLemmas.{length-run}
use Rattle.ats_trace.proofs.run.Run.len.Goals as goal

pub returns-clause-value : goal.returns-clause-value
returns-clause-value c = omega (arith, c.len.ensures, length-run _ _ _ _ _ c.self.view_is c.self.invariant)

pub returns-clause-bounded : goal.returns-clause-bounded
returns-clause-bounded c =
    omega (arith, length-run _ _ _ _ _ c.self.view_is c.self.invariant, c.self.invariant.few)
