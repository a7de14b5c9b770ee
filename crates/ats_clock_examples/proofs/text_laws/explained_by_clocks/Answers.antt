use Rattle.ats_clock_examples.proofs.ExplainProofs.{explained_by_clocks}
use Rattle.ats_clock_examples.proofs.text_laws.explained_by_clocks.Goals as goal

pub returns : goal.returns
returns c = explained_by_clocks
