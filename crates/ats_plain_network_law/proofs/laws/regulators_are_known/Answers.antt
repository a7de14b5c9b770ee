use Rattle.ats_plain_network_law.proofs.RegulatorProofs.{regulators_are_known}
use Rattle.ats_plain_network_law.proofs.laws.regulators_are_known.Goals as goal

pub returns : goal.returns
returns c = regulators_are_known
