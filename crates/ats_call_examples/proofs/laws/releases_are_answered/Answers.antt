use Rattle.ats_call_examples.proofs.Released.{releases_are_answered}
use Rattle.ats_call_examples.proofs.laws.releases_are_answered.Goals as goal

pub returns : goal.returns
returns c = releases_are_answered
