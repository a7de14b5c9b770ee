use Rattle.ats_answer_law.proofs.AnyClocks as clocks
use Rattle.ats_answer_law.proofs.run_laws.no_clock_is_asked.Goals as goal

pub returns : goal.returns
returns c = clocks.no_clock_is_asked
