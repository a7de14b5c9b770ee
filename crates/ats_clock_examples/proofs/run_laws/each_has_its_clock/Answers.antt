use Rattle.ats_clock_examples.proofs.TwoClockProofs as clocked
use Rattle.ats_clock_examples.proofs.run_laws.each_has_its_clock.Goals as goal

pub returns-clause-alike : goal.returns-clause-alike
returns-clause-alike c = clocked.each_has_its_clock

pub returns-clause-unlike : goal.returns-clause-unlike
returns-clause-unlike c = clocked.each_declares_its_clock

pub returns-clause-one : goal.returns-clause-one
returns-clause-one c = clocked.both_groups_have_one_clock
