use Rattle.ats_text_examples.proofs.Measured.{measures_are_meant}
use Rattle.ats_text_examples.proofs.laws.measures_are_meant.Goals as goal

pub returns : goal.returns
returns c = measures_are_meant
