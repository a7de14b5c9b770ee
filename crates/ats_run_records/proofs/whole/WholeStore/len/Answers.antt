use Rattle.std.proofs.Common.{arith}
use Rattle.ats_run_records.proofs.Writes.{in-rows}
use Rattle.ats_run_records.proofs.whole.WholeStore.len.Goals as goal

pub returns-clause-value : goal.returns-clause-value
returns-clause-value c = omega (arith, c.len.ensures, in-rows c.self.invariant c.self.view_is)

pub returns-clause-bounded : goal.returns-clause-bounded
returns-clause-bounded c = omega (arith, c.self.invariant.laid.few, in-rows c.self.invariant c.self.view_is)
