use Rattle.ats_meaning_examples.proofs.AskedMeant.{asked_is_meant}
use Rattle.ats_meaning_examples.proofs.laws.asked_is_meant.Goals as goal

pub returns : goal.returns
returns c = asked_is_meant
