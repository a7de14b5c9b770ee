use Rattle.ats_text_examples.proofs.ReleasesTabled.{tables_are_told}
use Rattle.ats_text_examples.proofs.laws.tables_are_told.Goals as goal

pub returns : goal.returns
returns c = tables_are_told
