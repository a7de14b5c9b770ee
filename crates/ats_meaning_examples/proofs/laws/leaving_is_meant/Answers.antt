use Rattle.ats_meaning_examples.proofs.LeavingMeant.{leaving_is_meant}
use Rattle.ats_meaning_examples.proofs.laws.leaving_is_meant.Goals as goal

pub returns : goal.returns
returns c = leaving_is_meant
