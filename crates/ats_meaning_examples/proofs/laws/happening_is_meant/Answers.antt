use Rattle.ats_meaning_examples.proofs.HappeningMeant.{happening_is_meant}
use Rattle.ats_meaning_examples.proofs.laws.happening_is_meant.Goals as goal

pub returns : goal.returns
returns c = happening_is_meant
