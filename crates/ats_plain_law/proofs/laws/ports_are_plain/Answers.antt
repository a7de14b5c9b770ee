use Rattle.ats_plain_law.proofs.PortProofs.{ports_are_plain}
use Rattle.ats_plain_law.proofs.laws.ports_are_plain.Goals as goal

pub returns : goal.returns
returns c = ports_are_plain
