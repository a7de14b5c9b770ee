use Rattle.ats_text_examples.proofs.SetWritten.{settings_are_written}
use Rattle.ats_text_examples.proofs.laws.settings_are_written.Goals as goal

pub returns : goal.returns
returns c = settings_are_written
