use Rattle.ats_text_examples.proofs.VerdictsWritten.{verdicts_are_written}
use Rattle.ats_text_examples.proofs.laws.verdicts_are_written.Goals as goal

pub returns : goal.returns
returns c = verdicts_are_written
