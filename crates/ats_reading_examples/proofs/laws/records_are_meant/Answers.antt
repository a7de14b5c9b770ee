use Rattle.ats_reading_examples.proofs.EachProofs.{records_are_meant}
use Rattle.ats_reading_examples.proofs.laws.records_are_meant.Goals as goal

pub returns : goal.returns
returns c = records_are_meant
