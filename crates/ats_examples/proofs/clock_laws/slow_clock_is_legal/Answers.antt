use Rattle.ats_examples.proofs.ClockedRunProofs as clocked
use Rattle.ats_examples.proofs.clock_laws.slow_clock_is_legal.Goals as goal

pub returns-clause-legal : goal.returns-clause-legal
returns-clause-legal c = clocked.slow_clock_is_legal

pub returns-clause-declared : goal.returns-clause-declared
returns-clause-declared c = clocked.declared_rate_is_late
