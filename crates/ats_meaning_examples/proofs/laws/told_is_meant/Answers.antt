use Rattle.ats_meaning_examples.proofs.ToldMeant.{told_is_meant}
use Rattle.ats_meaning_examples.proofs.laws.told_is_meant.Goals as goal

pub returns : goal.returns
returns c = told_is_meant
