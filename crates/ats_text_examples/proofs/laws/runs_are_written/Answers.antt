use Rattle.ats_text_examples.proofs.ReportWritten.{runs_are_written}
use Rattle.ats_text_examples.proofs.laws.runs_are_written.Goals as goal

pub returns : goal.returns
returns c = runs_are_written
