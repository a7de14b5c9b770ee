use Rattle.ats_meaning_examples.proofs.ReadMeant.{reading_is_meant}
use Rattle.ats_meaning_examples.proofs.laws.reading_is_meant.Goals as goal

pub returns : goal.returns
returns c = reading_is_meant
