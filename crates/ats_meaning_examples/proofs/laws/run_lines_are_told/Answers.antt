use Rattle.ats_meaning_examples.proofs.RunLinesTold.{run_lines_are_told}
use Rattle.ats_meaning_examples.proofs.laws.run_lines_are_told.Goals as goal

pub returns : goal.returns
returns c = run_lines_are_told
