use Rattle.ats_clock_examples.proofs.ChangingProofs as changing
use Rattle.ats_clock_examples.proofs.run_laws.rates_may_change.Goals as goal

pub returns-clause-gain : goal.returns-clause-gain
returns-clause-gain c = changing.clocks_may_gain

pub returns-clause-change : goal.returns-clause-change
returns-clause-change c = changing.rates_may_change
