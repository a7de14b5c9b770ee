use Rattle.ats_text_examples.proofs.PortsWorked.{ports_are_worked}
use Rattle.ats_text_examples.proofs.laws.ports_are_worked.Goals as goal

pub returns : goal.returns
returns c = ports_are_worked
