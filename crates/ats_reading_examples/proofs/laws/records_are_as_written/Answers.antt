use Rattle.ats_reading_examples.proofs.StoredProofs.{records_are_as_written}
use Rattle.ats_reading_examples.proofs.laws.records_are_as_written.Goals as goal

pub returns : goal.returns
returns c = records_are_as_written
