use Rattle.ats_text_examples.proofs.CheckWritten.{networks_are_written}
use Rattle.ats_text_examples.proofs.laws.networks_are_written.Goals as goal

pub returns : goal.returns
returns c = networks_are_written
