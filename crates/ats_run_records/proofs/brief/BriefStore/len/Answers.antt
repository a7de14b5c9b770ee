use Rattle.std.proofs.Common.{arith}
use Rattle.ats_run_records.proofs.Briefs.{length-legs}
use Rattle.ats_run_records.proofs.brief.BriefStore.len.Goals as goal

pub returns-clause-value : goal.returns-clause-value
returns-clause-value c = omega (arith, c.len.ensures, length-legs c.self.invariant c.self.view_is)

pub returns-clause-bounded : goal.returns-clause-bounded
returns-clause-bounded c = omega (arith, c.self.invariant.few_legs, length-legs c.self.invariant c.self.view_is)
