use Rattle.ats_text_examples.proofs.VerdictsWritten.{answers_are_written}
use Rattle.ats_text_examples.proofs.laws.answers_are_written.Goals as goal

pub returns : goal.returns
returns c = answers_are_written
