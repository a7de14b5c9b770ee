use Rattle.ats_text_examples.proofs.DelaysWritten.{delays_are_written}
use Rattle.ats_text_examples.proofs.laws.delays_are_written.Goals as goal

pub returns : goal.returns
returns c = delays_are_written
