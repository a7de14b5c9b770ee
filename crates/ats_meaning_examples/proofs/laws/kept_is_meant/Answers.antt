use Rattle.ats_meaning_examples.proofs.KeptMeant.{kept_is_meant}
use Rattle.ats_meaning_examples.proofs.laws.kept_is_meant.Goals as goal

pub returns : goal.returns
returns c = kept_is_meant
