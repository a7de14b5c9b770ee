use Rattle.ats_reading_examples.proofs.FieldProofs.{fields_are_exact}
use Rattle.ats_reading_examples.proofs.laws.fields_are_exact.Goals as goal

pub returns : goal.returns
returns c = fields_are_exact
