use Rattle.ats_first_examples.proofs.PortsFirst.{ports_are_first}
use Rattle.ats_first_examples.proofs.laws.ports_are_first.Goals as goal

pub returns : goal.returns
returns c = ports_are_first
