use Rattle.ats_reading_examples.proofs.ReadProofs.{reads_are_listed}
use Rattle.ats_reading_examples.proofs.laws.reads_are_listed.Goals as goal

pub returns : goal.returns
returns c = reads_are_listed
