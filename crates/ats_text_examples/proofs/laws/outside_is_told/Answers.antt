use Rattle.ats_text_examples.proofs.OuterTold.{outside_is_told}
use Rattle.ats_text_examples.proofs.laws.outside_is_told.Goals as goal

pub returns : goal.returns
returns c = outside_is_told
