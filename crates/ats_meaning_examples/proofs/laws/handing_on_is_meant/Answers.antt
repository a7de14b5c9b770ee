use Rattle.ats_meaning_examples.proofs.HandedMeant.{handing_on_is_meant}
use Rattle.ats_meaning_examples.proofs.laws.handing_on_is_meant.Goals as goal

pub returns : goal.returns
returns c = handing_on_is_meant
