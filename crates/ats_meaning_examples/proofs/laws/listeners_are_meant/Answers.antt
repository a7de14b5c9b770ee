use Rattle.ats_meaning_examples.proofs.ListenerParts.{listeners_are_meant}
use Rattle.ats_meaning_examples.proofs.laws.listeners_are_meant.Goals as goal

pub returns : goal.returns
returns c = listeners_are_meant
