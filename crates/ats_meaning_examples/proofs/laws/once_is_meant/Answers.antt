use Rattle.ats_meaning_examples.proofs.OnceMeant.{once_is_meant}
use Rattle.ats_meaning_examples.proofs.laws.once_is_meant.Goals as goal

pub returns : goal.returns
returns c = once_is_meant
