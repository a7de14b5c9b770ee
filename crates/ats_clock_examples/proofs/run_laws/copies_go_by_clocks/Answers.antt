use Rattle.ats_clock_examples.proofs.CopyProofs.{copies_go_by_clocks}
use Rattle.ats_clock_examples.proofs.run_laws.copies_go_by_clocks.Goals as goal

pub returns : goal.returns
returns c = copies_go_by_clocks
