use Rattle.ats_meaning_examples.proofs.PrintingParts.{printing_is_meant}
use Rattle.ats_meaning_examples.proofs.laws.printing_is_meant.Goals as goal

pub returns : goal.returns
returns c = printing_is_meant
