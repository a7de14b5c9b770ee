use Rattle.ats_meaning_examples.proofs.PortParts.{ports_are_meant}
use Rattle.ats_meaning_examples.proofs.laws.ports_are_meant.Goals as goal

pub returns : goal.returns
returns c = ports_are_meant
